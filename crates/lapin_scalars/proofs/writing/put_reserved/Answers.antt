use Rattle.std.proofs.Common.{rules}
use Rattle.lapin_scalars.proofs.HexLaws.{encode_none}
use Rattle.lapin_scalars.proofs.writing.put_reserved.Goals as goal

pub returns-then-is_empty : goal.returns-then-is_empty
returns-then-is_empty c = encode_none c.args.out.now.items c.args.bytes.now (search rules)
