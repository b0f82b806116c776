use Rattle.std.proofs.Common.{◌++◌, ap, sym, ◌∙◌}
use Rattle.upi_base.specs.Names.{Setup as Lines}
use Rattle.upi_base.specs.declared.setup.Setup.{Setup}
use Rattle.vpa_directory.proofs.Additions.{refusal_of}
use Rattle.vpa_directory.proofs.Directory.build.Goals as goal

pub returns-in-Err-clause-refused : goal.returns-in-Err-clause-refused
returns-in-Err-clause-refused c =
    let built = c.lines.invariant in
    let lines_are = ap (λ (s : Setup). s.lines) built.now_is in
    let parts = ap (λ (left : Lines). c.lines.yielded ++ left) (sym c.in-Some.ensures.steps.0) ∙ built.parts in
    refusal_of c.args.setup.lines c.lines.yielded c.next.new.self.rest.items c.in-Some.line c.lines.at c.in-Err.fault parts built.count built.accepted (rw lines_are at c.in-Err.ensures.refused)
