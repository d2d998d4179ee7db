use Rattle.std.proofs.Common.{sym, ◌∙◌, ap, arith}
use Rattle.lapin_tables.specs.ByChannel.{on_channel}
use Rattle.lapin_rules.specs.Requests.{no_requests}
use Rattle.lapin_outbox.specs.Open.{OpenRequests, requests_at, spare_on}
use Rattle.lapin_outbox.proofs.Dropping.{no-first}
use Rattle.lapin_outstanding.proofs.Dropped.{requests-smaller, requests-others, requests-none}
use Rattle.lapin_outstanding.proofs.Cancels.{cancel-next, cancel-end}
use Rattle.lapin_outstanding.proofs.outstanding.Outstanding.end_requests.Goals as goal

pub loop-request-smaller : goal.loop-request-smaller
loop-request-smaller c = requests-smaller c.args.channel c.loop-request.self.replies.what _ c.in-Some.request (ap (λ (r : OpenRequests). r.what) c.end_request.ensures.requests ∙ c.in-Some.ensures.ok) c.in-Some.ensures.taken

pub loop-request-preserved : goal.loop-request-preserved
loop-request-preserved c =
    let now = c.loop-request.self.replies.what in
    let left = ap (λ (r : OpenRequests). r.what) c.end_request.ensures.requests ∙ c.in-Some.ensures.ok in
    record {
      requests = ap (on_channel c.args.channel no_requests) left ∙ requests-others c.args.channel now c.in-Some.request c.in-Some.ensures.taken ∙ c.loop-request.invariant.requests;
      slots = cancel-next c.args.channel now _ c.in-Some.request c.loop-request.self.tickets.slots _ c.in-Some.ensures.taken left c.end_request.ensures.slots ∙ c.loop-request.invariant.slots;
      outbox = c.end_request.ensures.outbox ∙ c.loop-request.invariant.outbox;
      room = λ d. let same = ap (spare_on d) c.end_request.ensures.requests in omega (arith, same, c.drain.ensures.kept d, c.loop-request.invariant.room d);
      ready = c.end_request.ensures.room ∙ c.loop-request.invariant.ready;
    }

pub returns-clause-requests : goal.returns-clause-requests
returns-clause-requests c =
    c.in_default.ensures.none
    ∙ sym (requests-none c.args.channel c.loop-request.self.replies.what (no-first (requests_at c.args.channel c.loop-request.self.replies.what) (sym c.in_default.ensures.taken)))
    ∙ c.loop-request.invariant.requests

pub returns-clause-slots : goal.returns-clause-slots
returns-clause-slots c =
    cancel-end c.args.channel c.loop-request.self.replies.what c.loop-request.self.tickets.slots (no-first (requests_at c.args.channel c.loop-request.self.replies.what) (sym c.in_default.ensures.taken))
    ∙ c.loop-request.invariant.slots
