use Rattle.std.proofs.Common.{arith, ap, sym, ◌∙◌}
use Rattle.bank_positions.proofs.Places.{within}
use Rattle.bank_positions.proofs.Moves.{reads}
use Rattle.bank_positions.proofs.positions.Positions.read.Goals as goal

pub load-requires : goal.load-requires
load-requires g c =
    let s = c.args.self.now in
    let laid = s.laid in
    let inside = within c.args.bank g.N.PositionsName.layout.banks c.args.leg c.requires.bank in (
      c.requires.all.0 ∙ sym s.named,
      omega (arith, c.word_of.ensures, inside, ap (λ t. t.words) s.named, laid.words_are.0),
      reads _ _ _ _ _ _ (omega (arith, c.word_of.ensures, inside, laid.words_are.1)),
    )
