-- The leap years of the proleptic Gregorian calendar, which applies the rules of today to every year. The year before year 1 is year 0.
use Rattle.std.specs.Prelude.{◌%◌, ℕ, ℤ, unsigned_abs, Bool, not, ◌&&◌, ◌||◌, nat_eq}

-- The number divides the year: the remainder of the magnitude of the year is 0.
-- Examples: -4 and 4: true; 0 and 400: true; 1900 and 400: false.
unfoldable pub is_multiple : ℤ → ℕ → Bool
is_multiple year number = nat_eq (unsigned_abs year % number) 0

-- The year has a 29 February: it is a multiple of 4 but not of 100, or it is a multiple of 400.
-- Examples: 2000: true; 1900: false; -4: true.
unfoldable pub is_leap_year : ℤ → Bool
is_leap_year year = is_multiple year 4 && (not (is_multiple year 100) || is_multiple year 400)
