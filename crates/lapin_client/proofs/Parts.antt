-- The head of what came.
use Rattle.std.proofs.Common.{◌≡◌, ◌<◌, ◌≤◌, ℕ, Bool, true, false, List, [], ◌∷◌, Some, None, length, sym, ◌∙◌, arith}
use Rattle.lapin_client.specs.Receiving.{HeadIs, NoticeIs, SaysNoNotice, length_at, notice, notice_in}
use Rattle.lapin_client.specs.declared.receiving.Head.{Head}
use Rattle.lapin_client.specs.declared.receiving.Head.TheVariants as head
use Rattle.lapin_fields.specs.Around.{wanted_behind}
use Rattle.lapin_frames.specs.FrameReading.{read_at}
use Rattle.lapin_handshake.specs.Saying.{frame_said_at}
use Rattle.lapin_handshake.specs.declared.said.Said.{Said}
use Rattle.lapin_handshake.specs.declared.said.Said.TheVariants as said

-- the beginning of a frame is shorter than a frame may be
pub part_short : (bytes : List ℕ) (most : ℕ) → 4096 ≤ most → 0 < wanted_behind bytes → length_at bytes ≤ most → length bytes < most
part_short (_ ∷ _ ∷ _ ∷ a ∷ b ∷ c ∷ d ∷ rest) most least wanted fits = omega (wanted, fits, arith)
part_short (_ ∷ _ ∷ _ ∷ _ ∷ _ ∷ _ ∷ []) most least wanted fits = omega (least, arith)
part_short (_ ∷ _ ∷ _ ∷ _ ∷ _ ∷ []) most least wanted fits = omega (least, arith)
part_short (_ ∷ _ ∷ _ ∷ _ ∷ []) most least wanted fits = omega (least, arith)
part_short (_ ∷ _ ∷ _ ∷ []) most least wanted fits = omega (least, arith)
part_short (_ ∷ _ ∷ []) most least wanted fits = omega (least, arith)
part_short (_ ∷ []) most least wanted fits = omega (least, arith)
part_short [] most least wanted fits = omega (least, arith)

-- what a frame says that is a notice, or none
pub noticed : (bytes : List ℕ) (s : Said) (b : Bool) → frame_said_at bytes ≡ Some s → Some b ≡ notice_in s → frame_said_at bytes ≡ Some (notice b)
noticed bytes said.Blocked true says is = says
noticed bytes said.Blocked false says is = absurd cc
noticed bytes said.Unblocked false says is = says
noticed bytes said.Unblocked true says is = absurd cc
noticed bytes (said.Start x y z) b says is = absurd cc
noticed bytes said.Secure b says is = absurd cc
noticed bytes (said.Tune x y z) b says is = absurd cc
noticed bytes said.OpenOk b says is = absurd cc
noticed bytes (said.Close x) b says is = absurd cc
noticed bytes said.Heartbeat b says is = absurd cc

no_notice : (s : Said) (b : Bool) → None ≡ notice_in s → s ≡ notice b → ⊥
no_notice said.Blocked b is same = absurd cc
no_notice said.Unblocked b is same = absurd cc
no_notice (said.Start x y z) true is same = absurd cc
no_notice (said.Start x y z) false is same = absurd cc
no_notice said.Secure true is same = absurd cc
no_notice said.Secure false is same = absurd cc
no_notice (said.Tune x y z) true is same = absurd cc
no_notice (said.Tune x y z) false is same = absurd cc
no_notice said.OpenOk true is same = absurd cc
no_notice said.OpenOk false is same = absurd cc
no_notice (said.Close x) true is same = absurd cc
no_notice (said.Close x) false is same = absurd cc
no_notice said.Heartbeat true is same = absurd cc
no_notice said.Heartbeat false is same = absurd cc

pub unnoticed : (bytes : List ℕ) (s : Said) → frame_said_at bytes ≡ Some s → None ≡ notice_in s → SaysNoNotice bytes
unnoticed bytes s says is = λ b other. no_notice s b is (let same : Some s ≡ Some (notice b) = sym says ∙ other in cc)

pub none_said : (bytes : List ℕ) → frame_said_at bytes ≡ None → SaysNoNotice bytes
none_said bytes none = λ b other. absurd cc

none_wanted : (n : ℕ) → n ≤ 0 → n ≡ 0
none_wanted n less = omega (less, arith)

-- what stands there then
pub head_noticed : (h : Head) (bytes : List ℕ) (most : ℕ) → wanted_behind bytes ≤ 0 → read_at bytes ≡ None → NoticeIs h bytes → HeadIs h bytes most
head_noticed (head.Blocked b n) bytes most whole none h = (none_wanted (wanted_behind bytes) whole, none, h.0, h.1)
head_noticed head.Malformed bytes most whole none h = (none_wanted (wanted_behind bytes) whole, none, h)
head_noticed head.NoMemory bytes most whole none h = tt
head_noticed head.Part bytes most whole none h = absurd h
head_noticed (head.Frame f n) bytes most whole none h = absurd h
head_noticed (head.Passed n) bytes most whole none h = absurd h
head_noticed head.TooLong bytes most whole none h = absurd h
