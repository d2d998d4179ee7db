use Rattle.std.proofs.Common.{◌≡◌, List, ℕ, Some, None, refl, subst}
use Rattle.lapin_client.specs.Receiving.{SaysNoNotice}
use Rattle.lapin_fields.specs.Around.{wanted_behind}
use Rattle.lapin_frames.specs.FrameReading.{read_at}
use Rattle.lapin_frames.specs.declared.frames.Read.TheVariants as read
use Rattle.lapin_client.proofs.client.Client.turn.Goals as goal

pub returns-in-Frame-clause-told : goal.returns-in-Frame-clause-told
returns-in-Frame-clause-told c = c.turn_by.ensures.told (subst (λ (l : List ℕ). read_at l ≡ Some (read.Frame c.in-Frame.frame c.in-Frame.length)) c.rest.ensures c.in-Frame.ensures)

pub returns-in-Malformed-clause-told : goal.returns-in-Malformed-clause-told
returns-in-Malformed-clause-told c =
    let h = c.in-Malformed.ensures in (
      subst (λ (l : List ℕ). wanted_behind l ≡ 0) c.rest.ensures h.0,
      (subst (λ (l : List ℕ). read_at l ≡ None) c.rest.ensures h.1, subst (λ (l : List ℕ). SaysNoNotice l) c.rest.ensures h.2),
      refl,
    )
