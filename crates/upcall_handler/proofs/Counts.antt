-- What one more upcall adds to what became of upcalls.
use Rattle.std.proofs.Common.{◌≡◌, ◌≤◌, ◌<◌, ◌+◌, ℕ, arith}
use Rattle.spec_case.specs.Run.{Run}
use Rattle.upcall_handler.specs.declared.upshot.Handled.{Handled}
use Rattle.upcall_handler.specs.declared.upshot.Upshot.{Upshot}
use Rattle.upcall_handler.specs.declared.upshot.Upshot.TheVariants.{Done, Gone, Left, Beyond}
use Rattle.upcall_handler.specs.Upshots.{HasCause, HasCauses, counted, count_of}

-- a block that stops short of what was seen stops short of what is seen later
beyond_later : (run : Run) (before seen newer : ℕ) (h : Handled) → seen ≤ newer → HasCauses run before seen h → 0 < h.beyond → h.hi < newer
beyond_later run before seen newer h up causes some =
    let short : h.hi < seen = (causes.beyond some).0 in
    omega arith

pub causes_counted : (run : Run) (before seen newer : ℕ) (h : Handled) (u : Upshot) → before ≤ newer → seen ≤ newer → HasCauses run before seen h → HasCause run newer u → HasCauses run before newer (counted h u)
causes_counted run before seen newer h Done low up causes cause = record {
  left = causes.left;
  all_left = λ some all. absurd (omega arith);
  beyond = λ some. (beyond_later run before seen newer h up causes some, (causes.beyond some).1);
}
causes_counted run before seen newer h Gone low up causes cause = record {
  left = causes.left;
  all_left = λ some all. absurd (omega arith);
  beyond = λ some. (beyond_later run before seen newer h up causes some, (causes.beyond some).1);
}
causes_counted run before seen newer h (Left floor) low up causes cause =
    let above : newer < floor = cause.0 in record {
      left = λ some. (omega arith, cause.1);
      all_left = λ some all. above;
      beyond = λ some. (beyond_later run before seen newer h up causes some, (causes.beyond some).1);
    }
causes_counted run before seen newer h (Beyond hi) low up causes cause = record {
  left = causes.left;
  all_left = λ some all. absurd (omega arith);
  beyond = λ some. cause;
}

pub count_counted : (h : Handled) (u : Upshot) → count_of (counted h u) ≡ count_of h + 1
count_counted h Done = omega arith
count_counted h Gone = omega arith
count_counted h (Left floor) = omega arith
count_counted h (Beyond hi) = omega arith
