use Rattle.recon_report.proofs.Banks.{banks_more}
use Rattle.recon_report.proofs.whole.banks.Goals as goal

pub loop-line-preserved : goal.loop-line-preserved
loop-line-preserved c = banks_more c.args.setup.now c.loop-line.line-index c.line-item.result c.loop-line.banks.items c.push_bank.new.banks.items c.loop-line-test.true c.line-item.is c.loop-line.invariant c.in_ok-push_bank.ensures
