-- What a change of one channel's contents does to the table of all channels.
use Rattle.std.proofs.Common.{◌≡◌, ℕ, List, [], ◌∷◌, ◌++◌, Option, Some, None, Result, Ok, Err, OnOk, OnErr, sym, ◌∙◌, ap}
use Rattle.lapin_methods.specs.declared.error.Error.{Error}
use Rattle.lapin_methods.specs.declared.error.Error.TheVariants as error
use Rattle.lapin_tables.specs.ByChannel.{at_channel, on_channel}
use Rattle.lapin_tables.proofs.Channels.{on-known, on-same, on-absent}
use Rattle.lapin_content.specs.declared.start.Whole.{Whole}
use Rattle.lapin_content.specs.Contents.{Expected, UnlessNoMemory}
use Rattle.lapin_content.specs.Channels.{Channels, joined_at, joined}

-- the list of a channel that is there was changed by g
pub changed : (c : ℕ) (g : List Expected → List Expected) (q w : List Expected) (all : Channels) → Some q ≡ at_channel c all → w ≡ g q → on_channel c (λ _. w) all ≡ on_channel c g all
changed c g q w all at is = ap (λ v. on_channel c (λ _. v) all) is ∙ sym (on-known c g q all (sym at))

-- a channel that expects nothing
pub absent : (c : ℕ) (g : List Expected → List Expected) (all : Channels) → None ≡ at_channel c all → g [] ≡ [] → all ≡ on_channel c g all
absent c g all none still = sym (on-absent c g all (sym none))

-- it stays
pub unchanged : (c : ℕ) (q w : List Expected) (all : Channels) → Some q ≡ at_channel c all → w ≡ q → on_channel c (λ _. w) all ≡ all
unchanged c q w all at is = ap (λ v. on_channel c (λ _. v) all) is ∙ on-same c q all (sym at)

-- it got one more
pub one-more : (c : ℕ) (e : Expected) (q w : List Expected) (all : Channels) → Some q ≡ at_channel c all → w ≡ q ++ e ∷ [] → on_channel c (λ _. w) all ≡ joined c e all
one-more c e q w all at is = changed c (λ es. es ++ e ∷ []) q w all at is ∙ ap (λ o. joined_at o c e all) at

-- after a body, which may find no memory
pub after-body : (r : Result (Option Whole) Error) (P Q R S : Type 0) → (P → R) → (Q → S) → UnlessNoMemory r P Q → UnlessNoMemory r R S
after-body (Err error.NoMemory) P Q R S f g h = g h
after-body r P Q R S f g h = f h

pub on-ok : {X E : Type 0} (r : Result X E) (P Q : Type 0) → (P → Q) → OnOk r P → OnOk r Q
on-ok (Ok x) P Q f h = f h
on-ok (Err e) P Q f h = h

pub on-err : {X E : Type 0} (r : Result X E) (P Q : Type 0) → (P → Q) → OnErr r P → OnErr r Q
on-err (Ok x) P Q f h = h
on-err (Err e) P Q f h = f h
