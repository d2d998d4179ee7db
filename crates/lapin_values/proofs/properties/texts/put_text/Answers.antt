use Rattle.std.proofs.Common.{refl}
use Rattle.lapin_values.proofs.TextsLaws.{put_over}
use Rattle.lapin_values.proofs.properties.texts.put_text.Goals as goal

pub returns : goal.returns
returns c = record {
  text = λ n. rw (c.with.ensures, c.without.ensures.texts, c.replace-before.ensures.value) (put_over c.args.property n c.args.text c.args.texts.now.texts);
  marks = rw (c.with.ensures, c.marks-marks.ensures) refl;
  timestamp = rw (c.with.ensures, c.without.ensures.timestamp, c.replace-before.ensures.value) refl;
}
