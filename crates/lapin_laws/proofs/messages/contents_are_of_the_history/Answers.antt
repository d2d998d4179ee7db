use Rattle.std.proofs.Common.{◌∙◌, ap, sym, zip}
use Rattle.lapin_content.specs.Contents.{heard_header, heard_body}
use Rattle.lapin_content.specs.Readings.{contents}
use Rattle.lapin_content.proofs.Fitting.{contents-fit}
use Rattle.lapin_content.proofs.Messages.{by-body, by-header}
use Rattle.lapin_rules.specs.History.{run}
use Rattle.lapin_laws.specs.Contents.{content_history}
use Rattle.lapin_laws.proofs.Contents.{contents_follow, contents_live}
use Rattle.lapin_laws.proofs.messages.contents_are_of_the_history.Goals as goal

pub returns-clause-follows : goal.returns-clause-follows
returns-clause-follows c = contents_follow

pub returns-clause-live : goal.returns-clause-live
returns-clause-live c = contents_live

pub returns-clause-body : goal.returns-clause-body
returns-clause-body c = λ n es d bytes w told.
    let ms = content_history n (zip es (run n es)) in
    by-body bytes (contents d ms) w (contents-fit d ms) (sym (ap (heard_body bytes) (contents_follow n es d)) ∙ told)

pub returns-clause-header : goal.returns-clause-header
returns-clause-header c = λ n es d h w told.
    let ms = content_history n (zip es (run n es)) in
    by-header h (contents d ms) w (sym (ap (heard_header h) (contents_follow n es d)) ∙ told)
