use Rattle.std.proofs.Common.{◌≡◌, ◌∙◌, length, sym, ap, subst, arith}
use Rattle.lapin_check.specs.Openings.{opens}
use Rattle.lapin_check.specs.Marks.{Watch}
use Rattle.lapin_check.specs.Pointing.{IsKept, places_of, emptied}
use Rattle.lapin_check.proofs.Keeping.{kept_read, emptied_short}
use Rattle.lapin_check.proofs.watch.Watch.read.Goals as goal

pub open_by-requires : goal.open_by-requires
open_by-requires c =
    let kept : IsKept c.requires.0 (record { broker = c.self.inside.broker; opens = c.self.inside.opens.entries; unsettled = c.self.inside.unsettled.entries }) c.args.account.now.items = subst (λ (w : Watch). IsKept c.requires.0 w c.args.account.now.items) (sym c.self.view_is) c.requires.2 in
    omega (arith, kept.opened c.channel_of-channel.result, c.requires.1)

pub number_by-requires : goal.number_by-requires
number_by-requires c =
    let kept : IsKept c.requires.0 (record { broker = c.self.inside.broker; opens = c.self.inside.opens.entries; unsettled = c.self.inside.unsettled.entries }) c.args.account.now.items = subst (λ (w : Watch). IsKept c.requires.0 w c.args.account.now.items) (sym c.self.view_is) c.requires.2 in
    let now : length (places_of c.channel_of-channel.result c.open_by.new.self.unsettled) ≡ length (emptied c.opens-opens.result (places_of c.channel_of-channel.result c.self.inside.unsettled.entries)) = ap length (c.in_ok-open_by.ensures.here) in
    omega (arith, now, emptied_short c.opens-opens.result (places_of c.channel_of-channel.result c.self.inside.unsettled.entries), kept.given c.channel_of-channel.result, c.requires.1)

pub returns-clause-kept : goal.returns-clause-kept
returns-clause-kept c =
    let w : Watch = record { broker = c.self.inside.broker; opens = c.self.inside.opens.entries; unsettled = c.self.inside.unsettled.entries } in
    let kept : IsKept c.requires.0 w c.args.account.now.items = subst (λ (v : Watch). IsKept c.requires.0 v c.args.account.now.items) (sym c.self.view_is) c.requires.2 in
    kept_read c.requires.0 c.args.place c.channel_of-channel.result c.numbered-before.result c.opens-opens.result c.args.frame.now w c.open_by.new.self c.number_by.new.self c.args.account.now.items c.number_by.new.account.items kept c.requires.1 c.channel_of-channel.ensures c.numbered-before.ensures (c.opens-opens.ensures ∙ ap (λ (v : Watch). opens v.broker c.args.frame.now) (sym c.self.view_is))
    (record {
      broker_one = c.in_ok-open_by.ensures.broker ∙ c.in_ok-read.ensures.ok;
      opens_one = c.in_ok-open_by.ensures.opens;
      here_one = c.in_ok-open_by.ensures.here;
      others_one = c.in_ok-open_by.ensures.others;
      broker_two = c.in_ok-number_by.ensures.broker;
      opens_two = c.in_ok-number_by.ensures.opens;
      account_two = c.in_ok-number_by.ensures.account;
      here_two = c.in_ok-number_by.ensures.here;
      others_two = c.in_ok-number_by.ensures.others;
    })
