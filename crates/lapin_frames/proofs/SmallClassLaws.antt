-- What was written is read: methods of the classes connection, channel, access, confirm and tx.
use Rattle.std.proofs.Common.{◌≡◌, ℕ, List, [], ◌∷◌, ◌++◌, Some, refl, ap, ◌∙◌, arith}
use Rattle.lapin_fields.specs.Fields.{short, text, counted, flags}
use Rattle.lapin_fields.proofs.FlagLaws.{flag_1, flag_2, flag_4, flag_8, flag_16}
use Rattle.lapin_fields.proofs.ReadingLaws.{then_on, text_back, reply_back, string_back, counted_back}
use Rattle.std.proofs.lemmas.Nat.{from_be_bytes-to_be_bytes_2}
use Rattle.lapin_methods.specs.declared.connection.ConnectionMethod.{ConnectionMethod}
use Rattle.lapin_methods.specs.declared.connection.ConnectionMethod.TheVariants as connection_method
use Rattle.lapin_methods.specs.declared.channel.ChannelMethod.{ChannelMethod}
use Rattle.lapin_methods.specs.declared.channel.ChannelMethod.TheVariants as channel_method
use Rattle.lapin_methods.specs.declared.access.AccessMethod.{AccessMethod}
use Rattle.lapin_methods.specs.declared.access.AccessMethod.TheVariants as access_method
use Rattle.lapin_methods.specs.declared.confirm.ConfirmMethod.{ConfirmMethod}
use Rattle.lapin_methods.specs.declared.confirm.ConfirmMethod.TheVariants as confirm_method
use Rattle.lapin_methods.specs.declared.tx.TxMethod.{TxMethod}
use Rattle.lapin_methods.specs.declared.tx.TxMethod.TheVariants as tx_method
use Rattle.lapin_frames.specs.FrameFits.{ConnectionFits, ChannelFits, AccessFits, ConfirmFits, TxFits}
use Rattle.lapin_frames.specs.Methods.{connection_bytes, channel_bytes, access_bytes, confirm_bytes, tx_bytes}
use Rattle.lapin_frames.specs.MethodReading.{connection_at, channel_at, access_at, confirm_at, tx_at}
use Rattle.lapin_frames.proofs.Joined.{numbered, joined_2, joined_3, joined_5}

-- a method of the class connection, from its number on
pub connection_back : (m : ConnectionMethod) (rest : List ℕ) → ConnectionFits m → numbered connection_at (connection_bytes m ++ rest) ≡ Some (m, rest)
connection_back (connection_method.Close reply_code reply_text class_id method_id) rest fit = ap (numbered connection_at) (joined_5 (short 50) (short reply_code) (text reply_text) (short class_id) (short method_id) rest) ∙ (rw (from_be_bytes-to_be_bytes_2 reply_code fit.0) (then_on _ _ _ _ (reply_back reply_text (short class_id ++ (short method_id ++ rest)) fit.1) (rw (from_be_bytes-to_be_bytes_2 class_id fit.2) (rw (from_be_bytes-to_be_bytes_2 method_id fit.3) refl))))
connection_back connection_method.CloseOk rest fit = refl

-- a method of the class channel, from its number on
pub channel_back : (m : ChannelMethod) (rest : List ℕ) → ChannelFits m → numbered channel_at (channel_bytes m ++ rest) ≡ Some (m, rest)
channel_back channel_method.Open rest fit = ap (numbered channel_at) (joined_2 (short 10) (text []) rest) ∙ (then_on _ _ _ _ (string_back [] rest) refl)
channel_back channel_method.OpenOk rest fit = ap (numbered channel_at) (joined_2 (short 11) (counted []) rest) ∙ (then_on _ _ _ _ (counted_back [] rest (omega arith)) refl)
channel_back (channel_method.Flow active) rest fit = ap (numbered channel_at) (joined_2 (short 20) (flags (active ∷ [])) rest) ∙ (λ i. Some (channel_method.Flow (flag_1 active [] i), rest))
channel_back (channel_method.FlowOk active) rest fit = ap (numbered channel_at) (joined_2 (short 21) (flags (active ∷ [])) rest) ∙ (λ i. Some (channel_method.FlowOk (flag_1 active [] i), rest))
channel_back (channel_method.Close reply_code reply_text class_id method_id) rest fit = ap (numbered channel_at) (joined_5 (short 40) (short reply_code) (text reply_text) (short class_id) (short method_id) rest) ∙ (rw (from_be_bytes-to_be_bytes_2 reply_code fit.0) (then_on _ _ _ _ (reply_back reply_text (short class_id ++ (short method_id ++ rest)) fit.1) (rw (from_be_bytes-to_be_bytes_2 class_id fit.2) (rw (from_be_bytes-to_be_bytes_2 method_id fit.3) refl))))
channel_back channel_method.CloseOk rest fit = refl

-- a method of the class access, from its number on
pub access_back : (m : AccessMethod) (rest : List ℕ) → AccessFits m → numbered access_at (access_bytes m ++ rest) ≡ Some (m, rest)
access_back (access_method.Request realm exclusive passive active write read) rest fit = ap (numbered access_at) (joined_3 (short 10) (text realm) (flags (exclusive ∷ passive ∷ active ∷ write ∷ read ∷ [])) rest) ∙ (then_on _ _ _ _ (text_back realm (flags (exclusive ∷ passive ∷ active ∷ write ∷ read ∷ []) ++ rest) fit) (λ i. Some (access_method.Request realm (flag_1 exclusive (passive ∷ active ∷ write ∷ read ∷ []) i) (flag_2 exclusive passive (active ∷ write ∷ read ∷ []) i) (flag_4 exclusive passive active (write ∷ read ∷ []) i) (flag_8 exclusive passive active write (read ∷ []) i) (flag_16 exclusive passive active write read [] i), rest)))
access_back access_method.RequestOk rest fit = refl

-- a method of the class confirm, from its number on
pub confirm_back : (m : ConfirmMethod) (rest : List ℕ) → ConfirmFits m → numbered confirm_at (confirm_bytes m ++ rest) ≡ Some (m, rest)
confirm_back (confirm_method.Select nowait) rest fit = ap (numbered confirm_at) (joined_2 (short 10) (flags (nowait ∷ [])) rest) ∙ (λ i. Some (confirm_method.Select (flag_1 nowait [] i), rest))
confirm_back confirm_method.SelectOk rest fit = refl

-- a method of the class tx, from its number on
pub tx_back : (m : TxMethod) (rest : List ℕ) → TxFits m → numbered tx_at (tx_bytes m ++ rest) ≡ Some (m, rest)
tx_back tx_method.Select rest fit = refl
tx_back tx_method.SelectOk rest fit = refl
tx_back tx_method.Commit rest fit = refl
tx_back tx_method.CommitOk rest fit = refl
tx_back tx_method.Rollback rest fit = refl
tx_back tx_method.RollbackOk rest fit = refl
