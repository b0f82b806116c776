-- An entry that fits after what its owner has.
use Rattle.std.proofs.Common.{◌≡◌, Bool, true, false, cond, List, ◌∷◌, Option, refl, sym, ◌∙◌, ap, subst}
use Rattle.std.specs.Prelude.{nat_lt, length, not, ◌&&◌, ◌||◌, if◌then◌else◌}
use Rattle.std.proofs.lemmas.Bool.{and_parts, and_from}
use Rattle.upi_words.specs.Prelude.{Entry, Call, Sent, Owner, Setup, History, is_closed, Legal}
use Rattle.upi_base.specs.declared.limits.TheConstants.{MAX_ENTRIES}
use Rattle.upi_model.specs.Legal.{names_known, has_room}
use Rattle.upi_model.specs.Owners.{owner_of, same_owner, message_of, own}
use Rattle.upi_model.specs.Own.{delivered_with, Deed, deeds, own_deeds}
use Rattle.upi_model.specs.Accounts.{more, order_in, own_orders}
use Rattle.upi_model.specs.Local.{StandsFor}
use Rattle.upi_model.specs.Fits.{owner_with, names_with, FitIsLegal, deed, StandOne}
use Rattle.upi_laws.proofs.Local.{calls_are_local}

owner_is_with : (h : History) (c : Call) → owner_with (message_of h c) c ≡ owner_of h c
owner_is_with h (Call.Hear p what) = refl
owner_is_with h (Call.Deliver n) = refl
owner_is_with h (Call.Lose n) = refl
owner_is_with h (Call.Late t) = refl
owner_is_with h Call.Close = refl

names_are_with : (S : Setup) (h : History) (c : Call) → names_with S (message_of h c) c ≡ names_known S h c
names_are_with S h (Call.Hear p what) = refl
names_are_with S h (Call.Deliver n) = refl
names_are_with S h (Call.Lose n) = refl
names_are_with S h (Call.Late t) = refl
names_are_with S h Call.Close = refl

room : (b c : Bool) → b ≡ true → (b || c) ≡ true
room true c e = refl
room false c e = absurd cc

-- of the message that the history has
fits_here : (S : Setup) (h : History) (mine : List Deed) (e : Entry) → Legal S h → is_closed h ≡ false → nat_lt (length h) MAX_ENTRIES ≡ true
    → StandsFor (owner_with (message_of h e.call) e.call) mine h → FitIsLegal S h mine (message_of h e.call) e
fits_here S h mine e legal run space stands =
    let here : StandsFor (owner_of h e.call) mine h = subst (λ (w : Owner). StandsFor w mine h) (owner_is_with h e.call) stands in
    record {
      fit_is_legal = λ f.
          let k = calls_are_local S h e.call e.at mine legal run f.runs here in (
            legal,
            record {
              comes = and_from (names_known S h e.call) (has_room h e.call) (sym (names_are_with S h e.call) ∙ f.known) (room (nat_lt (length h) MAX_ENTRIES) _ space);
              replied = f.replied ∙ sym k.replies;
              sends = f.sends ∙ sym k.sends;
            },
          );
      legal_is_fit = λ runs r.
          let k = calls_are_local S h e.call e.at mine legal run runs here in
          record {
            runs = runs;
            known = names_are_with S h e.call ∙ (and_parts (names_known S h e.call) (has_room h e.call) r.comes).0;
            replied = r.replied ∙ k.replies;
            sends = r.sends ∙ k.sends;
          };
    }

pub fits_are_legal : (S : Setup) (h : History) (mine : List Deed) (m : Option Sent) (e : Entry) → Legal S h → is_closed h ≡ false → nat_lt (length h) MAX_ENTRIES ≡ true
    → message_of h e.call ≡ m → StandsFor (owner_with m e.call) mine h → FitIsLegal S h mine m e
fits_are_legal S h mine m e legal run space has stands =
    subst (λ (x : Option Sent). FitIsLegal S h mine x e) has
    (fits_here S h mine e legal run space (subst (λ (x : Option Sent). StandsFor (owner_with x e.call) mine h) (sym has) stands))

-- ---- what owners have with one entry more

own_is : (w : Owner) (e : Entry) (h : History) (b : Bool) → is_closed (e ∷ h) ≡ false → same_owner w (owner_of h e.call) ≡ b
    → own_deeds w (e ∷ h) ≡ deeds (cond b (record { entry = e; message = message_of h e.call } ∷ own w h) (own w h))
own_is w e h b run is = λ i. deeds (if not (run i) && is i then record { entry = e; message = message_of h e.call } ∷ own w h else own w h)

stands_in : (w : Owner) (mine : List Deed) (e : Entry) (h : History) → StandsFor w mine h → own_deeds w (e ∷ h) ≡ deed (message_of h e.call) e ∷ own_deeds w h → StandsFor w (deed (message_of h e.call) e ∷ mine) (e ∷ h)
stands_in (Owner.Txns s) mine e h stands is = ap (λ (x : List Deed). deed (message_of h e.call) e ∷ x) stands ∙ sym is
stands_in (Owner.Accounts s) mine e h stands is = ap (more (order_in (delivered_with (message_of h e.call) e.call))) stands ∙ ap own_orders (sym is)

stands_out : (w : Owner) (mine : List Deed) (e : Entry) (h : History) → StandsFor w mine h → own_deeds w (e ∷ h) ≡ own_deeds w h → StandsFor w mine (e ∷ h)
stands_out (Owner.Txns s) mine e h stands is = stands ∙ sym is
stands_out (Owner.Accounts s) mine e h stands is = stands ∙ ap own_orders (sym is)

stands_here : (w : Owner) (mine : List Deed) (e : Entry) (h : History) → is_closed (e ∷ h) ≡ false → StandsFor w mine h → StandOne w mine (message_of h e.call) e h
stands_here w mine e h run stands = record {
  own_more = λ is. stands_in w mine e h stands (own_is w e h true run (ap (same_owner w) (sym (owner_is_with h e.call)) ∙ is));
  own_same = λ is. stands_out w mine e h stands (own_is w e h false run (ap (same_owner w) (sym (owner_is_with h e.call)) ∙ is));
}

pub stands_more : (w : Owner) (mine : List Deed) (m : Option Sent) (e : Entry) (h : History) → is_closed (e ∷ h) ≡ false → message_of h e.call ≡ m → StandsFor w mine h → StandOne w mine m e h
stands_more w mine m e h run has stands = subst (λ (x : Option Sent). StandOne w mine x e h) has (stands_here w mine e h run stands)
