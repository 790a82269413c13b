-- The calls of two numbers and more; the search finds the others.
use Rattle.std.proofs.Common.{◌∙◌}
use Rattle.encode.proofs.Wrote.{number_of, two_numbers, a_write, a_rename}
use Rattle.encode.proofs.call.write_call.Goals as goal

pub returns-in-List : goal.returns-in-List
returns-in-List c =
    let k = number_of c.args.call.now c.kind.result c.in_ok-kind.field-0 c.from.result c.kind.ensures c.in_ok-kind.was c.from.ensures in
    two_numbers c.args.call.now c.from.result c.in-List.x c.in-List.y _ _ c.args.out.now _ _ c.in-List.is k c.to_le_bytes-in-List.ensures
    c.to_le_bytes-in-List-2.ensures c.put-in-List.ensures

pub returns-in-Write : goal.returns-in-Write
returns-in-Write c =
    let k = number_of c.args.call.now c.kind.result c.in_ok-kind.field-0 c.from.result c.kind.ensures c.in_ok-kind.was c.from.ensures in
    a_write c.args.call.now c.from.result c.in-Write.file c.in-Write.at c.in-Write.block _ _ c.args.out.now _ _ c.in-Write.is k
    c.to_le_bytes-in-Write.ensures c.to_le_bytes-in-Write-2.ensures c.put-in-Write.ensures

pub returns-in-Rename : goal.returns-in-Rename
returns-in-Rename c =
    let k = number_of c.args.call.now c.kind.result c.in_ok-kind.field-0 c.from.result c.kind.ensures c.in_ok-kind.was c.from.ensures in
    a_rename c.args.call.now c.from.result c.in-Rename.dir c.in-Rename.new_dir c.in-Rename.name c.in-Rename.new_name _ _ _ c.args.out.now _ _
    c.in-Rename.is k c.to_le_bytes.ensures c.to_le_bytes-in-Rename.ensures (c.deref.ensures.0 ∙ c.digits-length.ensures) c.put.ensures
