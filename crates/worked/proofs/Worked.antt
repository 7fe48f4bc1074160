-- The starred cases hold.
use mathlib.Core.Path.{refl}
use Rattle.worked.specs.Worked.{Worked}
use Rattle.worked.proofs.Cases as calls
use Rattle.worked.proofs.Sales as sales

pub worked : Worked
worked =
    record {
      defaults = refl;
      sent_bytes = calls.sent_bytes;
      a = calls.sent_at 22 6;
      b = calls.sent_at 31 2;
      c = calls.sent_at 60 9;
      d = calls.sent_at 2 8;
      d_fields = calls.d_fields;
      e = calls.e;
      longest = calls.longest;
      f = calls.f;
      f_counts = calls.f_counts;
      f_settles = calls.f_settles;
      f_debit = calls.f_debit;
      f_debits = calls.f_debits;
      f_credit = calls.f_credit;
      f_credits = calls.f_credits;
      g = calls.g;
      g_free = calls.g_free;
      h = calls.h;
      i = sales.i;
      i_refused = sales.i_refused;
      j = calls.j;
      j_refused = calls.j_refused;
      k_rest = calls.k_rest;
      k = calls.k;
    }
