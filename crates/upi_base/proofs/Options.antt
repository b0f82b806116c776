-- Lemmas on options and on what a condition guards, which every layer uses.
use Rattle.std.proofs.Common.{◌≡◌, Bool, true, false, cond, Option, Some, None, refl, inl, inr, ◌⊎◌}
use Rattle.std.specs.Prelude.{is_some, is_none}
use Rattle.std.specs.Option.{option_or, option_and_then}
use Rattle.upi_base.specs.Lists.{when}

-- what an option is
module _ {X : Type 0} where
  pub some_same : (x y : X) → Some x ≡ Some y → x ≡ y
  some_same x y e = cc

  pub none_some : (o : Option X) (x : X) → o ≡ None → o ≡ Some x → ⊥
  none_some o x e f = cc

  pub some_is : (o : Option X) (x : X) → o ≡ Some x → is_some o ≡ true
  some_is o x e = rw e refl

  pub is_some_has : (o : Option X) → is_some o ≡ true → (x : X) × (o ≡ Some x)
  is_some_has None h = absurd cc
  is_some_has (Some x) h = (x, refl)

  pub no_some : (o : Option X) → is_some o ≡ false → o ≡ None
  no_some None h = refl
  no_some (Some x) h = absurd cc

  pub none_is : (o : Option X) → is_none o ≡ true → o ≡ None
  none_is None e = refl
  none_is (Some x) e = absurd cc

  pub none_no : (o : Option X) → is_none o ≡ false → is_some o ≡ true
  none_no None h = absurd cc
  none_no (Some x) h = refl

  pub none_if : (o : Option X) → ((x : X) → o ≡ Some x → ⊥) → o ≡ None
  none_if None h = refl
  none_if (Some x) h = absurd (h x refl)

-- one option, and another where the first is none
module _ {X : Type 0} where
  pub or_cases : (o p : Option X) (x : X) → option_or o p ≡ Some x → (o ≡ Some x) ⊎ ((o ≡ None) × (p ≡ Some x))
  or_cases None p x h = inr (refl, h)
  or_cases (Some y) p x h = inl h

  pub or_stays : (o p : Option X) (x : X) → o ≡ Some x → option_or o p ≡ Some x
  or_stays None p x h = absurd cc
  or_stays (Some y) p x h = h

  pub or_first : (o p : Option X) → is_some o ≡ true → option_or o p ≡ o
  or_first None p h = absurd cc
  or_first (Some x) p h = refl

  pub or_second : (o p : Option X) → o ≡ None → option_or o p ≡ p
  or_second None p h = refl
  or_second (Some y) p h = absurd cc

  pub or_some : (o p : Option X) → is_some p ≡ true → is_some (option_or o p) ≡ true
  or_some None p e = e
  or_some (Some x) p e = refl

  pub or_none : (o : Option X) → option_or o None ≡ o
  or_none None = refl
  or_none (Some x) = refl

  pub or_nothing : (o p : Option X) → p ≡ None → option_or o p ≡ o
  or_nothing None p e = e
  or_nothing (Some x) p e = refl

  pub or_both_none : (o p : Option X) → o ≡ None → p ≡ None → option_or o p ≡ None
  or_both_none None p e f = f
  or_both_none (Some x) p e f = absurd cc

  pub or_assoc : (o p q : Option X) → option_or (option_or o p) q ≡ option_or o (option_or p q)
  or_assoc None p q = refl
  or_assoc (Some x) p q = refl

-- what a condition guards
module _ {X : Type 0} where
  pub when_true : (b : Bool) (x y : X) → when b x ≡ Some y → (b ≡ true) × (x ≡ y)
  when_true true x y h = (refl, cc)
  when_true false x y h = absurd cc

  pub if_some : (b : Bool) (o : Option X) (x : X) → cond b o None ≡ Some x → (b ≡ true) × (o ≡ Some x)
  if_some true o x h = (refl, h)
  if_some false o x h = absurd cc

  pub if_false : (b : Bool) (o : Option X) → b ≡ false → cond b o None ≡ None
  if_false true o e = absurd cc
  if_false false o e = refl

  pub guarded : (b : Bool) (o : Option X) (x : X) → cond b None o ≡ Some x → (b ≡ false) × (o ≡ Some x)
  guarded true o x h = absurd cc
  guarded false o x h = (refl, h)

  pub guard_none : (b : Bool) (o : Option X) → o ≡ None → cond b None o ≡ None
  guard_none true o e = refl
  guard_none false o e = e

  pub guard_shut : (b : Bool) (o : Option X) → b ≡ true → cond b None o ≡ None
  guard_shut true o e = refl
  guard_shut false o e = absurd cc

-- nothing comes of nothing
module _ {X Y : Type 0} (f : X → Option Y) where
  pub none_then : (o : Option X) → o ≡ None → option_and_then f o ≡ None
  none_then None e = refl
  none_then (Some x) e = absurd cc

  pub then_none : (o : Option X) → ((x : X) → o ≡ Some x → f x ≡ None) → option_and_then f o ≡ None
  then_none None e = refl
  then_none (Some x) e = e x refl
