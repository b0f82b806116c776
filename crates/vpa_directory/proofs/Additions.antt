-- The tables with one line more.
use Rattle.std.proofs.Common.{◌≡◌, ℕ, ◌+◌, ◌-◌, ◌<◌, Bool, true, false, not, ◌||◌, cond, List, [], ◌∷◌, ◌++◌, length, take, get_or, slice_get, Option, Some, None, Result, Ok, Err, OnOk, OnErr, MatchOption, refl, sym, ap, subst, ◌∙◌, ◌⊎◌, inl, inr, arith, add-zero, length-append}
use Rattle.std.specs.Prelude.{is_some, ◌&&◌, if◌then◌else◌, IsOkUnless}
use Rattle.std.specs.Option.{option_or}
use Rattle.std.specs.List.{list_any, count_by}
use Rattle.std.specs.Map.{lookup}
use Rattle.std.specs.Str.{bytes_eq}
use Rattle.std.specs.Cmp.Lexicographic.{nat_list_eq_equiv}
use Rattle.std.proofs.Math.Seq.{take-append_seam}
use Rattle.std.proofs.lemmas.List.{get_or-append-add}
use Rattle.std.proofs.lemmas.List.Folds.{list_any-append}
use Rattle.std.proofs.lemmas.Option.{slice_get-get_or}
use Rattle.upi_base.specs.Names.{Text, Setup}
use Rattle.upi_base.specs.declared.code.Policy.{Policy}
use Rattle.upi_base.specs.declared.setup.AccountRef.{AccountRef}
use Rattle.upi_base.specs.declared.setup.Account.{Account}
use Rattle.upi_base.specs.declared.setup.Listing.{Listing}
use Rattle.upi_base.specs.declared.setup.SetupLine.{SetupLine}
use Rattle.upi_base.specs.declared.setup.SetupLine.TheVariants as line
use Rattle.upi_base.specs.declared.fault.NoMemory.{NoMemory}
use Rattle.upi_base.specs.declared.fault.Why.{Why}
use Rattle.upi_base.specs.declared.fault.Why.TheVariants as why
use Rattle.upi_base.specs.Lists.{when}
use Rattle.upi_base.specs.Setup.{same_account, names_bank, names_psp, account_in, listing_in, has_bank, has_psp, account_named, listing_at, is_bank_line, is_psp_line, is_account_line, is_address_line, setup_fault, is_setup}
use Rattle.upi_base.proofs.Lists.{pick-push, sum_push}
use Rattle.upi_base.proofs.Options.{or_none}
use Rattle.upi_base.proofs.Setups.{setups_extend}
use Rattle.indexmap.specs.IndexMap.{IndexMap, get, insert_entry}
use Rattle.indexmap.specs.IndexSet.{insert_key}
use Rattle.indexmap.proofs.CallerLemmas.{insert_entry-new}
use Rattle.vpa_directory.specs.declared.fault.SetupFault.{SetupFault}
use Rattle.vpa_directory.specs.declared.fault.SetupFault.TheVariants as fault
use Rattle.vpa_directory.specs.Faults.{told, IsRefusal}
use Rattle.vpa_directory.specs.Tables.{BanksFit, PspsFit, AccountsFit, AddressesFit, IsDirectory, bank_refusal, psp_refusal, account_refusal, address_refusal}

-- ---- what is the same either way round

pub eq_sym : (a b : Text) → bytes_eq a b ≡ bytes_eq b a
eq_sym a b = nat_list_eq_equiv.symm a b

same_sym : (a b : AccountRef) → same_account a b ≡ same_account b a
same_sym a b = λ i. eq_sym a.bank b.bank i && eq_sym a.num b.num i

or_false : (b : Bool) → (b || false) ≡ b
or_false true = refl
or_false false = refl

-- ---- one more element

any_push : {X : Type 0} (p : X → Bool) (xs : List X) (x : X) → list_any p (xs ++ x ∷ []) ≡ (list_any p xs || p x)
any_push p xs x = list_any-append p xs (x ∷ []) ∙ ap (λ b. list_any p xs || b) (or_false (p x))

count_in : {X : Type 0} (p : X → Bool) (xs : List X) (x : X) → p x ≡ true → count_by p (xs ++ x ∷ []) ≡ count_by p xs + 1
count_in p xs x e = sum_push (λ y. cond (p y) 1 0) xs x ∙ ap (λ b. count_by p xs + cond b 1 0) e

count_out : {X : Type 0} (p : X → Bool) (xs : List X) (x : X) → p x ≡ false → count_by p (xs ++ x ∷ []) ≡ count_by p xs
count_out p xs x e = sum_push (λ y. cond (p y) 1 0) xs x ∙ ap (λ b. count_by p xs + cond b 1 0) e ∙ add-zero (count_by p xs)

length_push : {X : Type 0} (xs : List X) (x : X) → length (xs ++ x ∷ []) ≡ length xs + 1
length_push xs x = length-append xs (x ∷ [])

-- a key that was not there goes last
pub inserted : {X : Type 0} (eq : X → X → Bool) (keys : List X) (key : X) → list_any (eq key) keys ≡ false → insert_key eq keys key ≡ keys ++ key ∷ []
inserted eq keys key e = ap (λ b. if b then keys else keys ++ key ∷ []) e

-- ---- banks

pub bank_added : (lines : Setup) (banks : List Text) (code : Text) → BanksFit lines banks → BanksFit (lines ++ line.Bank code ∷ []) (banks ++ code ∷ [])
bank_added lines banks code h = record {
  found = λ q. any_push (bytes_eq q) banks code ∙ (λ i. h.found q i || eq_sym q code i) ∙ sym (any_push (names_bank q) lines (line.Bank code));
  count = length_push banks code ∙ ap (λ n. n + 1) h.count ∙ sym (count_in is_bank_line lines (line.Bank code) refl);
}

banks_kept : (lines : Setup) (l : SetupLine) (banks : List Text) → is_bank_line l ≡ false → ((q : Text) → names_bank q l ≡ false) → BanksFit lines banks → BanksFit (lines ++ l ∷ []) banks
banks_kept lines l banks out other h = record {
  found = λ q. h.found q ∙ sym (any_push (names_bank q) lines l ∙ ap (λ b. has_bank lines q || b) (other q) ∙ or_false (has_bank lines q));
  count = h.count ∙ sym (count_out is_bank_line lines l out);
}

-- ---- PSPs

pub psp_added : (lines : Setup) (psps : List Text) (name : Text) → PspsFit lines psps → PspsFit (lines ++ line.Psp name ∷ []) (psps ++ name ∷ [])
psp_added lines psps name h = record {
  found = λ q. any_push (bytes_eq q) psps name ∙ (λ i. h.found q i || eq_sym q name i) ∙ sym (any_push (names_psp q) lines (line.Psp name));
  count = length_push psps name ∙ ap (λ n. n + 1) h.count ∙ sym (count_in is_psp_line lines (line.Psp name) refl);
}

psps_kept : (lines : Setup) (l : SetupLine) (psps : List Text) → is_psp_line l ≡ false → ((q : Text) → names_psp q l ≡ false) → PspsFit lines psps → PspsFit (lines ++ l ∷ []) psps
psps_kept lines l psps out other h = record {
  found = λ q. h.found q ∙ sym (any_push (names_psp q) lines l ∙ ap (λ b. has_psp lines q || b) (other q) ∙ or_false (has_psp lines q));
  count = h.count ∙ sym (count_out is_psp_line lines l out);
}

-- ---- accounts

some_or : {X : Type 0} (o p : Option X) → is_some (option_or o p) ≡ (is_some o || is_some p)
some_or None p = refl
some_or (Some x) p = refl

some_when : {X : Type 0} (b : Bool) (x : X) → is_some (when b x) ≡ b
some_when true x = refl
some_when false x = refl

pub account_added : (lines : Setup) (accounts : List AccountRef) (ac : AccountRef) (opening : ℕ) (no_debit no_credit : Bool) → AccountsFit lines accounts
    → AccountsFit (lines ++ line.Account ac opening no_debit no_credit ∷ []) (accounts ++ ac ∷ [])
account_added lines accounts ac opening no_debit no_credit h =
    let l : SetupLine = line.Account ac opening no_debit no_credit in
    let account : Account = record { ac = ac; opening = opening; no_debit = no_debit; no_credit = no_credit } in
    record {
      found = λ q. any_push (same_account q) accounts ac ∙ (λ i. h.found q i || same_sym q ac i)
          ∙ sym (ap (λ o. is_some o) (pick-push (account_in q) lines l) ∙ some_or (account_named lines q) (account_in q l) ∙ ap (λ b. is_some (account_named lines q) || b) (some_when (same_account ac q) account));
      count = length_push accounts ac ∙ ap (λ n. n + 1) h.count ∙ sym (count_in is_account_line lines l refl);
    }

accounts_kept : (lines : Setup) (l : SetupLine) (accounts : List AccountRef) → is_account_line l ≡ false → ((q : AccountRef) → account_in q l ≡ None) → AccountsFit lines accounts → AccountsFit (lines ++ l ∷ []) accounts
accounts_kept lines l accounts out other h = record {
  found = λ q. h.found q ∙ sym (ap (λ o. is_some o) (pick-push (account_in q) lines l ∙ ap (λ o. option_or (account_named lines q) o) (other q) ∙ or_none (account_named lines q)));
  count = h.count ∙ sym (count_out is_account_line lines l out);
}

-- ---- addresses

lookup_push : (es : List (Text × Listing)) (addr q : Text) (listing : Listing) → lookup (bytes_eq q) (es ++ (addr, listing) ∷ []) ≡ option_or (lookup (bytes_eq q) es) (when (bytes_eq q addr) listing)
lookup_push [] addr q listing = refl
lookup_push (e ∷ es) addr q listing = go (bytes_eq q e.0) (lookup_push es addr q listing)
  where
    go : (b : Bool) → lookup (bytes_eq q) (es ++ (addr, listing) ∷ []) ≡ option_or (lookup (bytes_eq q) es) (when (bytes_eq q addr) listing)
        → cond b (Some e.1) (lookup (bytes_eq q) (es ++ (addr, listing) ∷ [])) ≡ option_or (cond b (Some e.1) (lookup (bytes_eq q) es)) (when (bytes_eq q addr) listing)
    go true later = refl
    go false later = later

pub address_added : (lines : Setup) (addresses : List (Text × Listing)) (addr : Text) (listing : Listing) → AddressesFit lines addresses
    → AddressesFit (lines ++ line.Address addr listing.ac listing.policy ∷ []) (addresses ++ (addr, listing) ∷ [])
address_added lines addresses addr listing h =
    let l : SetupLine = line.Address addr listing.ac listing.policy in
    record {
      found = λ q. lookup_push addresses addr q listing ∙ (λ i. option_or (h.found q i) (when (eq_sym q addr i) listing)) ∙ sym (pick-push (listing_in q) lines l);
      count = length_push addresses (addr, listing) ∙ ap (λ n. n + 1) h.count ∙ sym (count_in is_address_line lines l refl);
    }

addresses_kept : (lines : Setup) (l : SetupLine) (addresses : List (Text × Listing)) → is_address_line l ≡ false → ((q : Text) → listing_in q l ≡ None) → AddressesFit lines addresses → AddressesFit (lines ++ l ∷ []) addresses
addresses_kept lines l addresses out other h = record {
  found = λ q. h.found q ∙ sym (pick-push (listing_in q) lines l ∙ ap (λ o. option_or (listing_at lines q) o) (other q) ∙ or_none (listing_at lines q));
  count = h.count ∙ sym (count_out is_address_line lines l out);
}

-- ---- what a table had room for, and has now

absent_first : {X : Type 0} (b : Bool) (x : X) (o : Option X) → None ≡ cond b (Some x) o → b ≡ false
absent_first true x o e = absurd cc
absent_first false x o e = refl

absent_second : {X : Type 0} (a b : Bool) (w x : X) (o : Option X) → None ≡ cond a (Some w) (cond b (Some x) o) → b ≡ false
absent_second true b w x o e = absurd cc
absent_second false b w x o e = absent_first b x o e

no_value : {X : Type 0} (o : Option X) → is_some o ≡ false → o ≡ None
no_value None e = refl
no_value (Some x) e = absurd cc

pub bank_entered : (lines new : Setup) (banks room keys : List Text) (code : Text) → BanksFit lines banks → None ≡ bank_refusal banks code → room ≡ banks → keys ≡ insert_key bytes_eq room code → new ≡ lines ++ line.Bank code ∷ [] → BanksFit new keys
bank_entered lines new banks room keys code h free same is more =
    let absent = absent_first (list_any (bytes_eq code) banks) why.Twice _ free in
    let last : keys ≡ banks ++ code ∷ [] = is ∙ ap (λ k. insert_key bytes_eq k code) same ∙ inserted bytes_eq banks code absent in
    subst (λ l. BanksFit l keys) (sym more) (subst (λ k. BanksFit (lines ++ line.Bank code ∷ []) k) (sym last) (bank_added lines banks code h))

pub psp_entered : (lines new : Setup) (psps room keys : List Text) (name : Text) → PspsFit lines psps → None ≡ psp_refusal psps name → room ≡ psps → keys ≡ insert_key bytes_eq room name → new ≡ lines ++ line.Psp name ∷ [] → PspsFit new keys
psp_entered lines new psps room keys name h free same is more =
    let absent = absent_first (list_any (bytes_eq name) psps) why.Twice _ free in
    let last : keys ≡ psps ++ name ∷ [] = is ∙ ap (λ k. insert_key bytes_eq k name) same ∙ inserted bytes_eq psps name absent in
    subst (λ l. PspsFit l keys) (sym more) (subst (λ k. PspsFit (lines ++ line.Psp name ∷ []) k) (sym last) (psp_added lines psps name h))

pub account_entered : (lines new : Setup) (banks : List Text) (accounts room keys : List AccountRef) (account : Account) → AccountsFit lines accounts → None ≡ account_refusal banks accounts account.ac
    → room ≡ accounts → keys ≡ insert_key same_account room account.ac → new ≡ lines ++ line.Account account.ac account.opening account.no_debit account.no_credit ∷ [] → AccountsFit new keys
account_entered lines new banks accounts room keys account h free same is more =
    let ac : AccountRef = account.ac in
    let l : SetupLine = line.Account ac account.opening account.no_debit account.no_credit in
    let absent = absent_second (not (list_any (bytes_eq ac.bank) banks)) (list_any (same_account ac) accounts) why.NoBank why.Twice _ free in
    let last : keys ≡ accounts ++ ac ∷ [] = is ∙ ap (λ k. insert_key same_account k ac) same ∙ inserted same_account accounts ac absent in
    subst (λ s. AccountsFit s keys) (sym more) (subst (λ k. AccountsFit (lines ++ l ∷ []) k) (sym last) (account_added lines accounts ac account.opening account.no_debit account.no_credit h))

pub address_entered : {S : Type 0} (lines new : Setup) (psps : List Text) (accounts : List AccountRef) (addresses : List (Text × Listing)) (room : IndexMap Text Listing S) (entries : List (Text × Listing)) (addr : Text) (listing : Listing)
    → AddressesFit lines addresses → None ≡ address_refusal psps accounts addresses addr listing.ac → room.entries ≡ addresses → entries ≡ insert_entry bytes_eq room.entries addr listing
    → new ≡ lines ++ line.Address addr listing.ac listing.policy ∷ [] → AddressesFit new entries
address_entered lines new psps accounts addresses room entries addr listing h free same is more =
    let l : SetupLine = line.Address addr listing.ac listing.policy in
    let absent = absent_first (is_some (lookup (bytes_eq addr) addresses)) why.Twice _ free in
    let missing : get bytes_eq room addr ≡ None = ap (λ (es : List (Text × Listing)). lookup (bytes_eq addr) es) same ∙ no_value (lookup (bytes_eq addr) addresses) absent in
    let last : entries ≡ addresses ++ (addr, listing) ∷ [] = is ∙ insert_entry-new bytes_eq room addr listing missing ∙ ap (λ (es : List (Text × Listing)). es ++ (addr, listing) ∷ []) same in
    subst (λ s. AddressesFit s entries) (sym more) (subst (λ es. AddressesFit (lines ++ l ∷ []) es) (sym last) (address_added lines addresses addr listing h))

-- ---- a directory with one line more, or as it was

-- what a line that was accepted has made of the lines
pub grows : (lines new : Setup) (l : SetupLine) (r : Result (Unit {0}) NoMemory) → setup_fault lines l ≡ None → OnOk r (new ≡ lines ++ l ∷ []) → OnErr r (new ≡ lines)
    → (new ≡ lines) ⊎ ((new ≡ lines ++ l ∷ []) × (setup_fault lines l ≡ None))
grows lines new l (Err e) free ok err = inl err
grows lines new l (Ok x) free ok err = inr (ok, free)

module _ (lines new : Setup) (banks psps : List Text) (accounts : List AccountRef) (addresses : List (Text × Listing)) (h : IsDirectory lines banks psps accounts addresses) where
  accepted_still : (l : SetupLine) → (new ≡ lines) ⊎ ((new ≡ lines ++ l ∷ []) × (setup_fault lines l ≡ None)) → is_setup new ≡ true
  accepted_still l (inl same) = ap is_setup same ∙ h.accepted
  accepted_still l (inr more) = ap is_setup more.0 ∙ setups_extend lines l h.accepted more.1

  banks_still : (l : SetupLine) → is_bank_line l ≡ false → ((q : Text) → names_bank q l ≡ false) → (new ≡ lines) ⊎ ((new ≡ lines ++ l ∷ []) × (setup_fault lines l ≡ None)) → BanksFit new banks
  banks_still l out other (inl same) = subst (λ s. BanksFit s banks) (sym same) h.banks_fit
  banks_still l out other (inr more) = subst (λ s. BanksFit s banks) (sym more.0) (banks_kept lines l banks out other h.banks_fit)

  psps_still : (l : SetupLine) → is_psp_line l ≡ false → ((q : Text) → names_psp q l ≡ false) → (new ≡ lines) ⊎ ((new ≡ lines ++ l ∷ []) × (setup_fault lines l ≡ None)) → PspsFit new psps
  psps_still l out other (inl same) = subst (λ s. PspsFit s psps) (sym same) h.psps_fit
  psps_still l out other (inr more) = subst (λ s. PspsFit s psps) (sym more.0) (psps_kept lines l psps out other h.psps_fit)

  accounts_still : (l : SetupLine) → is_account_line l ≡ false → ((q : AccountRef) → account_in q l ≡ None) → (new ≡ lines) ⊎ ((new ≡ lines ++ l ∷ []) × (setup_fault lines l ≡ None)) → AccountsFit new accounts
  accounts_still l out other (inl same) = subst (λ s. AccountsFit s accounts) (sym same) h.accounts_fit
  accounts_still l out other (inr more) = subst (λ s. AccountsFit s accounts) (sym more.0) (accounts_kept lines l accounts out other h.accounts_fit)

  addresses_still : (l : SetupLine) → is_address_line l ≡ false → ((q : Text) → listing_in q l ≡ None) → (new ≡ lines) ⊎ ((new ≡ lines ++ l ∷ []) × (setup_fault lines l ≡ None)) → AddressesFit new addresses
  addresses_still l out other (inl same) = subst (λ s. AddressesFit s addresses) (sym same) h.addresses_fit
  addresses_still l out other (inr more) = subst (λ s. AddressesFit s addresses) (sym more.0) (addresses_kept lines l addresses out other h.addresses_fit)

  pub with_bank : (code : Text) (now : List Text) → (new ≡ lines) ⊎ ((new ≡ lines ++ line.Bank code ∷ []) × (setup_fault lines (line.Bank code) ≡ None)) → BanksFit new now → IsDirectory new now psps accounts addresses
  with_bank code now how fit = record {
    accepted = accepted_still (line.Bank code) how;
    banks_fit = fit;
    psps_fit = psps_still (line.Bank code) refl (λ q. refl) how;
    accounts_fit = accounts_still (line.Bank code) refl (λ q. refl) how;
    addresses_fit = addresses_still (line.Bank code) refl (λ q. refl) how;
  }

  pub with_psp : (name : Text) (now : List Text) → (new ≡ lines) ⊎ ((new ≡ lines ++ line.Psp name ∷ []) × (setup_fault lines (line.Psp name) ≡ None)) → PspsFit new now → IsDirectory new banks now accounts addresses
  with_psp name now how fit = record {
    accepted = accepted_still (line.Psp name) how;
    banks_fit = banks_still (line.Psp name) refl (λ q. refl) how;
    psps_fit = fit;
    accounts_fit = accounts_still (line.Psp name) refl (λ q. refl) how;
    addresses_fit = addresses_still (line.Psp name) refl (λ q. refl) how;
  }

  pub with_account : (ac : AccountRef) (opening : ℕ) (no_debit no_credit : Bool) (now : List AccountRef)
      → (new ≡ lines) ⊎ ((new ≡ lines ++ line.Account ac opening no_debit no_credit ∷ []) × (setup_fault lines (line.Account ac opening no_debit no_credit) ≡ None)) → AccountsFit new now → IsDirectory new banks psps now addresses
  with_account ac opening no_debit no_credit now how fit =
      let l : SetupLine = line.Account ac opening no_debit no_credit in
      record {
        accepted = accepted_still l how;
        banks_fit = banks_still l refl (λ q. refl) how;
        psps_fit = psps_still l refl (λ q. refl) how;
        accounts_fit = fit;
        addresses_fit = addresses_still l refl (λ q. refl) how;
      }

  pub with_address : (addr : Text) (ac : AccountRef) (policy : Policy) (now : List (Text × Listing))
      → (new ≡ lines) ⊎ ((new ≡ lines ++ line.Address addr ac policy ∷ []) × (setup_fault lines (line.Address addr ac policy) ≡ None)) → AddressesFit new now → IsDirectory new banks psps accounts now
  with_address addr ac policy now how fit =
      let l : SetupLine = line.Address addr ac policy in
      record {
        accepted = accepted_still l how;
        banks_fit = banks_still l refl (λ q. refl) how;
        psps_fit = psps_still l refl (λ q. refl) how;
        accounts_fit = accounts_still l refl (λ q. refl) how;
        addresses_fit = fit;
      }

-- ---- a whole setup

-- the lines that are left begin with one that is refused
pub refusal_of : (lines done rest : Setup) (l : SetupLine) (at : ℕ) (e : SetupFault) → done ++ l ∷ rest ≡ lines → at ≡ length done → is_setup done ≡ true
    → MatchOption (setup_fault done l) (IsOkUnless {T = Unit {0}} (Err e) fault.NoMemory) (λ w. ◌≡◌ {A = Result (Unit {0}) SetupFault} (Err e) (Err (told w))) → IsRefusal lines (record { at = at + 1; fault = e })
refusal_of lines done rest l at e are place before refused = record {
  counted = omega arith;
  before = ap is_setup front ∙ before;
  line = l;
  there = there;
  reason_is = subst (λ (s : Setup). MatchOption (setup_fault s l) (e ≡ fault.NoMemory) (λ w. e ≡ told w)) (sym front) (go (setup_fault done l) refused);
}
  where
    n_is : at + 1 - 1 ≡ length done
    n_is = omega (arith, place)

    front : take (at + 1 - 1) lines ≡ done
    front = (λ i. take (n_is i) (sym are i)) ∙ take-append_seam done (l ∷ rest)

    there : slice_get lines (at + 1 - 1) ≡ Some l
    there = (λ i. slice_get (sym are i) (n_is i)) ∙ here
      where
        zero_more : length done ≡ length done + 0
        zero_more = omega arith

        inside : length done < length (done ++ l ∷ rest)
        inside = omega (arith, length-append done (l ∷ rest))

        here : slice_get (done ++ l ∷ rest) (length done) ≡ Some l
        here = slice_get-get_or (done ++ l ∷ rest) (length done) l inside ∙ ap (λ n. Some (get_or (done ++ l ∷ rest) n l)) zero_more ∙ ap (λ x. Some x) (get_or-append-add done (l ∷ rest) 0 l)

    go : (o : Option Why) → MatchOption o (IsOkUnless {T = Unit {0}} (Err e) fault.NoMemory) (λ w. ◌≡◌ {A = Result (Unit {0}) SetupFault} (Err e) (Err (told w))) → MatchOption o (e ≡ fault.NoMemory) (λ w. e ≡ told w)
    go None h = h
    go (Some w) h = cc
