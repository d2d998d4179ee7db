use Rattle.std.proofs.Common.{◌≡◌, arith, subst}
use Rattle.std.specs.Str.{IsUtf8}
use Rattle.std.proofs.lemmas.Str.{utf8_valid_len_le}
use Rattle.lapin_fields.specs.Reading.{readable}
use Rattle.lapin_fields.proofs.ReadableLaws.{readable_is_utf8}
use Rattle.lapin_fields.proofs.texts.mended.Goals as goal

pub split_at-requires : goal.split_at-requires
split_at-requires c = omega (arith, c.requires.front, utf8_valid_len_le c.args.bytes.now)

pub from_utf8_unchecked-requires : goal.from_utf8_unchecked-requires
from_utf8_unchecked-requires c =
    let is : readable c.args.bytes.now ≡ c.deref.result.now = cc (c.deref.ensures.value, c.in_ok-put_letters.ensures, c.in_ok-text.ensures.items, c.split_at.ensures.front, c.split_at.ensures.back, c.requires.front) in
    subst IsUtf8 is (readable_is_utf8 c.args.bytes.now)
