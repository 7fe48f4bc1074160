pub mod BatchMessages
