use Rattle.lapin_confirm.proofs.Closing.{all-next, all-done, close-less, close-other}
use Rattle.lapin_confirm.proofs.laws.a_close_one_by_one.Goals as goal

pub returns : goal.returns
returns a = record { next = all-next; done = all-done; less = λ c n e p was. close-less c n e p.publish_states was; other = λ c d n e p was apart. close-other c d n e p.publish_states was apart }
