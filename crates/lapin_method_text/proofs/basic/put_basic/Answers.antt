use Rattle.std.proofs.Common.{refl}
use Rattle.lapin_method_text.proofs.basic.put_basic.Goals as goal

pub returns-in_ok-put_text-in-Deliver-3 : goal.returns-in_ok-put_text-in-Deliver-3
returns-in_ok-put_text-in-Deliver-3 c = rw (c.in-Deliver.is, c.in_ok-put_text-in-Deliver-3.ensures, c.in_ok-put_text-in-Deliver-2.ensures, c.in_ok-put_flag-in-Deliver.ensures, c.in_ok-put_count-in-Deliver.ensures, c.in_ok-put_text-in-Deliver.ensures, c.in_ok-put_word-in-Deliver.ensures) refl

pub returns-in_ok-put_flag-in-Get : goal.returns-in_ok-put_flag-in-Get
returns-in_ok-put_flag-in-Get c = rw (c.in-Get.is, c.in_ok-put_flag-in-Get.ensures, c.in_ok-put_text-in-Get.ensures, c.in_ok-put_word-in-Get.ensures) refl

pub returns-in_ok-put_count-in-GetOk-2 : goal.returns-in_ok-put_count-in-GetOk-2
returns-in_ok-put_count-in-GetOk-2 c = rw (c.in-GetOk.is, c.in_ok-put_count-in-GetOk-2.ensures, c.from-in-GetOk.ensures, c.in_ok-put_text-in-GetOk-2.ensures, c.in_ok-put_text-in-GetOk.ensures, c.in_ok-put_flag-in-GetOk.ensures, c.in_ok-put_count-in-GetOk.ensures, c.in_ok-put_word-in-GetOk.ensures) refl
