-- The promise: every legal history over an accepted setup is sound.
use Rattle.std.proofs.Common.{◌≡◌, true, ◌++◌, sym, subst}
use Rattle.upi_words.specs.Prelude.{Setup, History, Legal}
use Rattle.upi_base.specs.Setup.{is_setup}
use Rattle.upi_laws.specs.Sound.{PrefixSound, LegalIsSound}
use Rattle.upi_model.proofs.Beginnings.{legal_before}
use Rattle.upi_model.proofs.Facts.{outcome_stays}
use Rattle.upi_laws.proofs.Told.{legal_tells}
use Rattle.upi_laws.proofs.Once.{legal_posts_once}
use Rattle.upi_laws.proofs.Moves.{entries_move_balances}
use Rattle.upi_laws.proofs.Approved.{collects_approved}
use Rattle.upi_laws.proofs.Conserved.{legal_keeps_money}
use Rattle.upi_laws.proofs.Settled.{legal_closes_sound}

-- each prefix, by the parts of the promise
sound_at : (S : Setup) (later P : History) → is_setup S ≡ true → Legal S (later ++ P) → PrefixSound S P (later ++ P)
sound_at S later P setup legal =
    let l = legal_before S later P legal in
    record {
      outcomes_stay = λ t. outcome_stays S t later P;
      outcomes_told = legal_tells S later P legal;
      legs_post_once = legal_posts_once S later P legal;
      balances_move = entries_move_balances S P setup;
      collects_approved = collects_approved S P l;
      money_kept = legal_keeps_money S P setup l;
      closes_sound = legal_closes_sound S P setup l;
    }

pub legal_is_sound : LegalIsSound
legal_is_sound S H setup legal later P splits = subst (PrefixSound S P) splits (sound_at S later P setup (subst (Legal S) (sym splits) legal))
