-- The laws, gathered by their subjects.
use Rattle.upi_laws.specs.BalanceLaws.{BalanceLaws}
use Rattle.upi_laws.specs.Sound.{PartsSound}
use Rattle.upi_laws.specs.CloseLaws.{CloseLaws}
use Rattle.upi_laws.specs.MessageLaws.{MessageLaws}
use Rattle.upi_laws.specs.LegLaws.{LegLaws}
use Rattle.upi_laws.specs.TellingLaws.{TellingLaws}
use Rattle.upi_laws.specs.WaitingLaws.{WaitingLaws}
use Rattle.upi_laws.specs.LocalLaws.{LocalLaws}
use Rattle.upi_laws.proofs.Told.{legal_tells, outcome_told, outcomes_are_carried}
use Rattle.upi_laws.proofs.Once.{legal_posts_once, arrived_is_answered, only_arrivals_move}
use Rattle.upi_laws.proofs.Moves.{entries_move_balances}
use Rattle.upi_laws.proofs.Approved.{collects_approved}
use Rattle.upi_laws.proofs.Conserved.{legal_keeps_money}
use Rattle.upi_laws.proofs.Settled.{legal_closes_sound}
use Rattle.upi_laws.proofs.Bounded.{debits_are_covered, balances_are_capped, totals_are_bounded}
use Rattle.upi_laws.proofs.Closing.{running_is_uncut, closed_have_outcomes}
use Rattle.upi_laws.proofs.HowOften.{closed_are_silent, all_entry_tellings, all_outcome_tellings}
use Rattle.upi_laws.proofs.Backed.{messages_backed, message_backed, backed_when_sent}
use Rattle.upi_laws.proofs.Versions.{messages_have_versions, deliveries_keep_version, answers_come_from_banks, orders_have_terms, order_amounts}
use Rattle.upi_laws.proofs.Deliveries.{orders_are_placed, orders_are_answered, orders_are_one, answered_ordered, answers_are_one, answers_stand, answers_end, legs_are_answered}
use Rattle.upi_laws.proofs.Stages.{places_are_stages}
use Rattle.upi_laws.proofs.Waits.{reversals_are_sent, open_are_due}
use Rattle.upi_laws.proofs.Accounts.{accounts_are_local, balances_run}
use Rattle.upi_laws.proofs.Local.{calls_are_local, orders_suffice}
use Rattle.upi_laws.proofs.Fits.{fits_are_legal, stands_more}
use Rattle.upi_laws.proofs.AtClose.{close_returns, close_lists}

-- the parts of the promise, each with the premises that it needs
pub parts_sound : PartsSound
parts_sound = record { tell = legal_tells; post_once = legal_posts_once; move_balances = entries_move_balances; approve = collects_approved; keep_money = legal_keeps_money; close_sound = legal_closes_sound }

-- arrivals and balances, on every list of entries
pub balance_laws : BalanceLaws
balance_laws = record { arrived_is_answered = arrived_is_answered; only_arrivals_move = only_arrivals_move; debits_covered = debits_are_covered; capped = balances_are_capped; totals_bounded = totals_are_bounded }

-- before a Close, at it and after it
pub close_laws : CloseLaws
close_laws = record { running_uncut = running_is_uncut; closed_have_outcomes = closed_have_outcomes; silent = closed_are_silent }

-- the messages of legal histories
pub message_laws : MessageLaws
message_laws = record { all_backed = messages_backed; backed = message_backed; backed_when_sent = backed_when_sent; versions = messages_have_versions; delivery_keeps_version = deliveries_keep_version; answers_from_banks = answers_come_from_banks; orders_have_terms = orders_have_terms; order_amounts = order_amounts }

-- orders, answers and the ends of legs
pub leg_laws : LegLaws
leg_laws = record { orders_placed = orders_are_placed; orders_answered = orders_are_answered; orders_are_one = orders_are_one; answered_ordered = answered_ordered; answers_are_one = answers_are_one; answers_stand = answers_stand; answers_end = answers_end; legs_answered = legs_are_answered; stages = places_are_stages }

-- what legal histories tell of outcomes, and how often
pub telling_laws : TellingLaws
telling_laws = record { told = outcome_told; carried = outcomes_are_carried; entries = all_entry_tellings; outcomes = all_outcome_tellings }

-- what a transaction waits for
pub waiting_laws : WaitingLaws
waiting_laws = record { reversals_sent = reversals_are_sent; open_are_due = open_are_due }

-- legal histories by the entries of one owner
pub local_laws : LocalLaws
local_laws = record { accounts = accounts_are_local; balances_run = balances_run; calls = calls_are_local; orders_suffice = orders_suffice; fits = fits_are_legal; more = stands_more; close_returns = close_returns; close_lists = close_lists }
