-- What a run over what came leaves.
use Rattle.std.proofs.Common.{◌≡◌, ◌<◌, ℕ, zero, suc, List, length, sym, refl, subst}
use Rattle.lapin_client.specs.declared.client.Client.{Client}
use Rattle.lapin_client.specs.declared.status.Status.{Status}
use Rattle.lapin_client.specs.declared.status.Status.TheVariants as status
use Rattle.lapin_client.specs.Receiving.{Comes, IsLonger, IsTurn, Receives, Turns, Runs}
use Rattle.lapin_fields.specs.Around.{wanted_behind}

pub comes_none : (c : Client) → Comes zero c c
unfolding Comes
comes_none c = refl

pub comes_more : (n : ℕ) (c b d : Client) → Comes n c b → IsTurn b d → Comes (suc n) c d
unfolding Comes
comes_more n c b d comes turn = (b, comes, turn)

-- it ends where no whole frame is left
pub runs_out : (n : ℕ) (b l d : Client) → Comes n b l → 0 < wanted_behind l.came → length l.came < l.frame_max → d ≡ l → Runs status.Done b d
runs_out n b l d comes wanted short same = (n, (subst (λ (x : Client). Comes n b x) (sym same) comes, subst (λ (x : Client). 0 < wanted_behind x.came) (sym same) wanted, subst (λ (x : Client). length x.came < x.frame_max) (sym same) short))

-- or at a frame that isn't taken
pub runs_to : (r : Status) (n : ℕ) (b l d : Client) → (r ≡ status.Done → ⊥) → Comes n b l → Turns r l d → Runs r b d
runs_to status.Done n b l d not comes turns = absurd (not refl)
runs_to status.Refused n b l d not comes turns = (n, (l, (comes, turns)))
runs_to status.NotInGrammar n b l d not comes turns = (n, (l, (comes, turns)))
runs_to status.NoMemory n b l d not comes turns = (n, (l, (comes, turns)))
runs_to status.Ended n b l d not comes turns = (n, (l, (comes, turns)))
runs_to status.Malformed n b l d not comes turns = (n, (l, (comes, turns)))
runs_to status.TooLong n b l d not comes turns = (n, (l, (comes, turns)))
runs_to status.Closed n b l d not comes turns = (n, (l, (comes, turns)))
runs_to status.Pending n b l d not comes turns = (n, (l, (comes, turns)))
runs_to status.Gone n b l d not comes turns = (n, (l, (comes, turns)))
runs_to status.Kept n b l d not comes turns = (n, (l, (comes, turns)))

-- octets for which there was room
pub receives_ran : (r : Status) (bytes : List ℕ) (c b d : Client) → IsLonger bytes c b → Runs r b d → Receives r bytes c d
receives_ran status.NoMemory bytes c b d longer runs = absurd runs.1.1.1
receives_ran status.Done bytes c b d longer runs = (b, (longer, runs))
receives_ran status.Refused bytes c b d longer runs = (b, (longer, runs))
receives_ran status.NotInGrammar bytes c b d longer runs = (b, (longer, runs))
receives_ran status.Ended bytes c b d longer runs = (b, (longer, runs))
receives_ran status.Malformed bytes c b d longer runs = (b, (longer, runs))
receives_ran status.TooLong bytes c b d longer runs = (b, (longer, runs))
receives_ran status.Closed bytes c b d longer runs = (b, (longer, runs))
receives_ran status.Pending bytes c b d longer runs = (b, (longer, runs))
receives_ran status.Gone bytes c b d longer runs = (b, (longer, runs))
receives_ran status.Kept bytes c b d longer runs = (b, (longer, runs))
