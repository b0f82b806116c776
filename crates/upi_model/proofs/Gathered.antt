-- The laws of the model, gathered by their subjects.
use Rattle.upi_model.specs.Structure.{PlaceLaws, OpeningLaws, StepLaws, LegalLaws}
use Rattle.upi_model.specs.StandingLaws.{StandingLaws}
use Rattle.upi_model.proofs.Facts.{places_stay, places_follow, outcome_stays}
use Rattle.upi_model.proofs.Stays.{openings_grow}
use Rattle.upi_model.proofs.Openings.{openings_are_found, opening_is_named, opening_is_first, openings_are_allowed, shards_have_room, openings_have_room}
use Rattle.upi_model.proofs.DueOrder.{openings_are_apart}
use Rattle.upi_model.proofs.Steps.{one_entry_adds, at_most_one_comes, others_are_untouched, closed_is_untouched, closed_answers_stand}
use Rattle.upi_model.proofs.Beginnings.{legal_before, legal_at, legal_more, legal_both_ways, legal_forward_more, few_entries}
use Rattle.upi_model.proofs.Standing.{stands_on}
use Rattle.upi_model.proofs.Happenings.{machine_stands, own_suffice}
use Rattle.upi_model.proofs.Own.{shards_are_local, rows_suffice}

-- places, in every history: they stay, and each stands on the one before it
pub place_laws : PlaceLaws
place_laws = record { stay = places_stay; follow = places_follow; outcome_stays = outcome_stays }

-- the openings of a history
pub opening_laws : OpeningLaws
opening_laws = record { grow = openings_grow; found = openings_are_found; apart = openings_are_apart; named = opening_is_named; earliest = opening_is_first; allowed = openings_are_allowed; shard_room = shards_have_room; room = openings_have_room }

-- one entry more, on every list of entries
pub step_laws : StepLaws
step_laws = record { adds = one_entry_adds; at_most_one = at_most_one_comes; others = others_are_untouched; closed = closed_is_untouched; answers_stand = closed_answers_stand }

-- legal histories
pub legal_laws : LegalLaws
legal_laws = record { before = legal_before; at = legal_at; more = legal_more; both_ways = legal_both_ways; forward_more = legal_forward_more; few = λ S h l run. (few_entries S h l).0 run; few_in_all = λ S h l. (few_entries S h l).1 }

-- how a transaction stands: from entry to entry, and by a part of the entries
pub standing_laws : StandingLaws
standing_laws = record { stands_on = stands_on; machine_stands = machine_stands; own_suffice = own_suffice; shards_are_local = shards_are_local; rows_suffice = rows_suffice }
