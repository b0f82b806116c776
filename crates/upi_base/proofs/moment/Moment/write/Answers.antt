use Rattle.std.proofs.Common.{◌≡◌, ◌++◌, ◌∷◌, [], ◌/◌, ◌%◌, rules, codes}
use Rattle.upi_base.specs.Time.{civil_from, date_text, clock_text, local_second}
use Rattle.upi_base.proofs.Stamps.{appended_four}
use Rattle.upi_base.proofs.moment.Moment.write.Goals as goal

pub returns-clause-ok : goal.returns-clause-ok
returns-clause-ok c =
    let e1 : c.extend_from_slice.new.self.items ≡ c.args.out.now.items ++ date_text (civil_from (local_second c.args.self / 86_400)) = search rules in
    let e2 : c.extend_from_slice-2.new.self.items ≡ c.extend_from_slice.new.self.items ++ 84 ∷ [] = search rules in
    let e3 : c.extend_from_slice-3.new.self.items ≡ c.extend_from_slice-2.new.self.items ++ clock_text (local_second c.args.self % 86_400) = search rules in
    let e4 : c.extend_from_slice-4.new.self.items ≡ c.extend_from_slice-3.new.self.items ++ codes "+05:30" = search rules in
    appended_four c.args.out.now.items c.extend_from_slice.new.self.items c.extend_from_slice-2.new.self.items c.extend_from_slice-3.new.self.items c.extend_from_slice-4.new.self.items
    (date_text (civil_from (local_second c.args.self / 86_400))) (84 ∷ []) (clock_text (local_second c.args.self % 86_400)) (codes "+05:30") e1 e2 e3 e4
