-- A table's lists, as an item is added to one of them.
use Rattle.std.proofs.Common.{◌≡◌, Bool, true, false, cond, [], ◌∷◌, ◌++◌, Some, refl, sym, ◌∙◌, ap, append-nil}
use Rattle.std.specs.Str.{bytes_eq}
use Rattle.std.specs.declared.alloc.Global.{Global}
use Rattle.std.specs.declared.vec.Vec.{Vec}
use Rattle.std.proofs.lemmas.Slice.Eq.{bytes_eq-Decides}
use Rattle.indexmap.specs.IndexMap.{IndexMap, get}
use Rattle.upi_words.specs.Prelude.{Text, Item}
use Rattle.settlement.specs.calls.Lists.{items_in, list_at, item_if}

-- a bank's list that grew by an item is that bank's; the other banks' are as they were
pub added : {S : Type 0} (before old new : IndexMap Text (Vec Item Global) S) (bank key : Text) (list : Vec Item Global) (item : Item)
    → ((b : Text) → get bytes_eq new b ≡ cond (bytes_eq key b) (Some list) (get bytes_eq old b)) → old ≡ before → key ≡ bank → list.items ≡ list_at before bank ++ item ∷ []
    → (b : Text) → list_at new b ≡ list_at before b ++ item_if (bytes_eq bank b) item
added {S} before old new bank key list item put same named grown b =
    ap items_in (put b)
    ∙ ap (λ (m : IndexMap Text (Vec Item Global) S). items_in (cond (bytes_eq key b) (Some list) (get bytes_eq m b))) same
    ∙ ap (λ (k : Text). items_in (cond (bytes_eq k b) (Some list) (get bytes_eq before b))) named
    ∙ by (bytes_eq bank b) refl
  where
    by : (here : Bool) → bytes_eq bank b ≡ here → items_in (cond here (Some list) (get bytes_eq before b)) ≡ list_at before b ++ item_if here item
    by true is = let one : bank ≡ b = (bytes_eq-Decides bank b).0 is in grown ∙ ap (λ (q : Text). list_at before q ++ item ∷ []) one
    by false is = sym (append-nil (list_at before b))
