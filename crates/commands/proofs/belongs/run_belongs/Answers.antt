use Rattle.std.proofs.Common.{rules, Bool, take}
use Rattle.streams.specs.Outlet.{WentOut}
use Rattle.commands.specs.Belongs.{Answers, belongs_text, got_both}
use Rattle.commands.proofs.belongs.run_belongs.Goals as goal

pub returns-in_err-send-clause-error : goal.returns-in_err-send-clause-error
returns-in_err-send-clause-error g c =
    let answer : Bool = c.in_ok-belongs.belongs in
    let told : got_both g.R.Read.remaining c.args.cut.now c.args.font.now (λ x y. Answers c.args.kind x y answer) =
    search rules in
    let sent : WentOut g.W.Write.contents c.args.outlet.now c.send.new.outlet (take c.in_err-send.field-0.0.written
    (belongs_text answer)) = search rules in
    let both : (a : Bool) × got_both g.R.Read.remaining c.args.cut.now c.args.font.now
    (λ x y. Answers c.args.kind x y a)
    × WentOut g.W.Write.contents c.args.outlet.now c.send.new.outlet (take c.in_err-send.field-0.0.written
    (belongs_text a)) = (answer, told, sent) in
    search (rules, both)
