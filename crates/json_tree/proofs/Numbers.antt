-- Whether a number is in range.
use Rattle.std.proofs.Common.{◌≡◌, Bool, true, false, Some, None, is_some, if◌then◌else◌, refl}

-- a test that gives something or nothing
pub is_some-if : {A : Type 0} (b : Bool) (x : A) → is_some (if b then Some x else None) ≡ b
is_some-if true x = refl
is_some-if false x = refl
