use Rattle.std.proofs.Common.{◌∙◌, add-one, arith}
use Rattle.lapin_check.proofs.Filling.{seen_next, seen_fault, seen_all}
use Rattle.lapin_check.proofs.transcript.check_all.Goals as goal

pub take-requires : goal.take-requires
take-requires c = (c.loop-seen.place, add-one c.loop-seen.place, c.loop-seen.invariant.kept)

pub returns-in-Some-clause-account : goal.returns-in-Some-clause-account
returns-in-Some-clause-account c =
    let wrong = rw c.in-Some.is at c.in_ok-finding.ensures.wrong in
    let same = rw c.in-Some.is at c.in_ok-finding.ensures.same in
    same ∙ (seen_fault c.args.frame_max c.args.transcript.now c.loop-seen.seen-index c.loop-seen.place c.loop-seen.watch c.loop-seen.account.items c.seen-item.result c.loop-seen.invariant (omega (arith, c.loop-seen-test.true, c.loop-seen.auto.seen-index-end)) c.seen-item.is wrong.0).1

pub loop-seen-preserved : goal.loop-seen-preserved
loop-seen-preserved c =
    let fine = rw c.in_default.is at c.in_ok-finding.ensures.fine in
    let after = rw c.in_default.is at c.in_ok-finding.ensures.after in
    let account = rw c.in_default.is at c.in_ok-finding.ensures.account in
    let kept = rw c.in_default.is at c.in_ok-finding.ensures.kept in
    seen_next c.args.frame_max c.args.transcript.now c.loop-seen.seen-index c.loop-seen.place c.loop-seen.watch c.loop-seen.account.items c.seen-item.result c.loop-seen.invariant (omega (arith, c.loop-seen-test.true, c.loop-seen.auto.seen-index-end)) c.seen-item.is c.take.new.self c.take.new.account.items
    (record { fits_so = fine; after = after; account_is = account; kept = kept })

pub returns-clause-account : goal.returns-clause-account
returns-clause-account c = (seen_all c.args.frame_max c.args.transcript.now c.loop-seen.seen-index c.loop-seen.place c.loop-seen.watch c.loop-seen.account.items c.loop-seen.invariant (omega (arith, c.loop-seen-test.false, c.loop-seen.auto.seen-index-end))).1
