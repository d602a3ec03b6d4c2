use Rattle.std.proofs.Common.{rules, ◌≡◌, length, map, arith}
use Rattle.std.proofs.lemmas.List.{length-map}
use Rattle.kt_chain.specs.Spelling.{member_record}
use Rattle.kt_explain.proofs.lines.records_in.Goals as goal

pub returns : goal.returns
returns c =
    let c1 = c.args.certificate.now in
    let same : length c.list.result.now ≡ length c1.members = search rules in
    let mapped : length (map (member_record c1.inst) c1.members) ≡ length c1.members = length-map c1.members (member_record c1.inst) in
    omega (arith, same, mapped)
