use Rattle.std.proofs.Common.{◌≡◌, ◌∷◌, ◌++◌, ◌∙◌, [], List, ℕ, Some, true, sym, ap}
use Rattle.std.specs.FinMap.Entries.{is_sorted}
use Rattle.lapin_values.specs.Data.{Data}
use Rattle.lapin_values.specs.DataOf.{data_of}
use Rattle.lapin_values.specs.Table.{key_cmp}
use Rattle.lapin_tokens.proofs.Rising.{put_last}
use Rattle.lapin_tokens.proofs.values.add.Goals as goal

pub returns : goal.returns
returns c =
    let rising : is_sorted key_cmp (c.args.table.now ++ (c.args.key, data_of c.args.value) ∷ []) ≡ true = sym (c.follows.ensures (data_of c.args.value)) ∙ c.if-not-follows.false in
    rw rising (ap (λ (ps : List (List ℕ × Data)). Some ps) (sym (c.in_ok-insert.ensures ∙ put_last c.args.key (data_of c.args.value) c.args.table.now rising)))
