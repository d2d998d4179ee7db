use Rattle.lapin_laws.proofs.LoneRejects.{rejected-next, unasked-push, rejected-told, rejected-given, rejected-aside}
use Rattle.lapin_laws.proofs.rejections.a_rejection_lasts.Goals as goal

pub returns : goal.returns
returns a = record { next = rejected-next; still = unasked-push; told = rejected-told; given = rejected-given; aside = rejected-aside }
