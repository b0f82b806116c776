use Rattle.std.proofs.Common.{◌≡◌, ℕ, List, ◌∷◌, ◌++◌, [], ap, sym, subst, ◌∙◌, append_assoc, arith}
use Rattle.std.proofs.lemmas.List.{append-nil}
use Rattle.upi_words.specs.Prelude.{Order, Sent}
use Rattle.upi_base.proofs.Lists.{none_of}
use Rattle.bank_shards.specs.Banks.{StandAll, CanTake, with_messages}
use Rattle.bank_shards.proofs.Calls.{take_first, take_rest, take_room, with_last}
use Rattle.bank_shards.proofs.banks.BankShards.arrive_all.Goals as goal

pub arrive-requires-clause-order : goal.arrive-requires-clause-order
arrive-requires-clause-order c =
    let rest : CanTake c.loop-order.self (c.in-Some.order ∷ c.next.new.self.rest.items) = subst (CanTake c.loop-order.self) c.in-Some.ensures.steps.0 c.loop-order.invariant.can in
    take_first c.loop-order.self c.in-Some.order c.next.new.self.rest.items rest

pub arrive-requires-clause-room : goal.arrive-requires-clause-room
arrive-requires-clause-room c =
    let rest : CanTake c.loop-order.self (c.in-Some.order ∷ c.next.new.self.rest.items) = subst (CanTake c.loop-order.self) c.in-Some.ensures.steps.0 c.loop-order.invariant.can in
    take_room c.loop-order.self c.in-Some.order c.next.new.self.rest.items rest

pub loop-order-preserved : goal.loop-order-preserved
loop-order-preserved c =
    let rest : CanTake c.loop-order.self (c.in-Some.order ∷ c.next.new.self.rest.items) = subst (CanTake c.loop-order.self) c.in-Some.ensures.steps.0 c.loop-order.invariant.can in
    record {
      parts = append_assoc c.loop-order.yielded (c.in-Some.order ∷ []) c.next.new.self.rest.items ∙ ap (λ (left : List Sent). c.loop-order.yielded ++ left) (sym c.in-Some.ensures.steps.0) ∙ c.loop-order.invariant.parts;
      can = take_rest c.loop-order.self c.arrive.new.self c.in-Some.order c.next.new.self.rest.items rest c.arrive.ensures.stands c.arrive.ensures.room;
      stands = λ S before all.
          subst (λ (orders : ℕ → List Order). StandAll S orders c.arrive.new.self) (with_last c.loop-order.yielded c.in-Some.order before)
          (c.arrive.ensures.stands S (with_messages c.loop-order.yielded before) (c.loop-order.invariant.stands S before all));
    }

pub returns : goal.returns
returns c = λ S before all.
    let none : c.loop-order.order-iterator.rest.items ≡ [] = none_of c.loop-order.order-iterator.rest.items (omega (arith, c.in-None.ensures.steps.0, c.loop-order.order-iterator.rest.ok)) in
    let whole : c.loop-order.yielded ≡ c.args.orders.items = sym (append-nil c.loop-order.yielded) ∙ ap (λ (left : List Sent). c.loop-order.yielded ++ left) (sym none) ∙ c.loop-order.invariant.parts in
    subst (λ (ms : List Sent). StandAll S (with_messages ms before) c.loop-order.self) whole (c.loop-order.invariant.stands S before all)
