-- What a setup that is being read keeps, and what it takes.
use Rattle.std.proofs.Common.{◌≡◌, Bool, true, [], ◌∷◌, ◌++◌, Option, Some, None, refl, sym, ap, subst, ◌∙◌}
use Rattle.upi_base.specs.declared.setup.Setup.{Setup}
use Rattle.upi_base.specs.declared.setup.SetupLine.{SetupLine}
use Rattle.upi_base.specs.Setup.{setup_fault, is_setup}
use Rattle.upi_base.proofs.Setups.{setups_extend}
use Rattle.upi_text.specs.Setup.{SetupState}
use Rattle.upi_text.specs.calls.Kept.{state_of, IsKept}

-- the lines that were read are a setup
pub kept_lines : (o : Option Setup) (is_open : Bool) → IsKept o is_open → is_setup (state_of o is_open).lines ≡ true
kept_lines None is_open kept = refl
kept_lines (Some d) is_open kept = kept

-- and so are they with one more that the setup takes
pub line_kept : (o : Option Setup) (is_open : Bool) (S : SetupState) (d new : Setup) (l : SetupLine) → IsKept o is_open → o ≡ Some d → state_of o is_open ≡ S → setup_fault S.lines l ≡ None → new ≡ record { start = d.start; lines = d.lines ++ l ∷ [] }
    → is_setup new.lines ≡ true
line_kept o is_open S d new l kept some view free same =
    let lines : S.lines ≡ d.lines = sym (ap (λ (s : SetupState). s.lines) view) ∙ ap (λ (p : Option Setup). (state_of p is_open).lines) some in
    ap (λ (s : Setup). is_setup s.lines) same
    ∙ setups_extend d.lines l (subst (λ (p : Option Setup). IsKept p is_open) some kept) (subst (λ ls. setup_fault ls l ≡ None) lines free)
