use Rattle.std.proofs.Common.{arith, ap, sym, ◌∙◌, ◌<◌, ◌+◌, ◌^◌}
use Rattle.std.specs.Prelude.{slice_index}
use Rattle.bank_positions.proofs.Places.{within}
use Rattle.bank_positions.proofs.Moves.{adds}
use Rattle.bank_positions.proofs.positions.Positions.add.Goals as goal

pub fetch_add-requires : goal.fetch_add-requires
fetch_add-requires g c =
    let s = c.args.self.now in
    let laid = s.laid in
    let me = c.share.invariant in
    let inside = within c.args.bank g.N.PositionsName.layout.banks c.args.leg c.requires.bank in
    let near : slice_index c.share.inside.seat.me.0.added c.word_of-word.result + c.args.amount < 2 ^ 60 = rw (c.share.view_is, c.word_of-word.ensures) c.requires.room in
    let room : slice_index c.share.inside.seat.me.0.added c.word_of-word.result + c.get.result < 2 ^ 60 = omega (arith, near, c.get.ensures) in (
      me.table ∙ sym s.named,
      omega (arith, c.word_of-word.ensures, inside, ap (λ t. t.words) s.named, laid.words_are.0),
      adds _ _ _ _ _ _ _ (omega (arith, c.word_of-word.ensures, inside, laid.words_are.1)) (omega (arith, me.part)) room,
    )
