use Rattle.dup_table.proofs.First.{add_new}
use Rattle.dup_table.proofs.DupTable.add.Goals as goal

pub returns-clause-rows : goal.returns-clause-rows
returns-clause-rows g c =
    let is = rw c.unwrap.ensures at c.insert.ensures.entries in
    add_new g.K.PartialEq.eq c.self.inside.rows c.args.self.now c.args.key c.args.value c.insert.new.self.entries c.self.view_is c.requires.new is
