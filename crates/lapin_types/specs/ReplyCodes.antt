-- The reply codes (AMQP 0-9-1, section 1.2, with RabbitMQ's 312).
use Rattle.std.specs.Prelude.{ℕ, ◌==◌, Option, Some, None, if◌then◌else◌}
use Rattle.lapin_types.specs.declared.reply_code.AMQPSoftError.{AMQPSoftError}
use Rattle.lapin_types.specs.declared.reply_code.AMQPSoftError.TheVariants as soft
use Rattle.lapin_types.specs.declared.reply_code.AMQPHardError.{AMQPHardError}
use Rattle.lapin_types.specs.declared.reply_code.AMQPHardError.TheVariants as hard
use Rattle.lapin_types.specs.declared.reply_code.AMQPErrorKind.{AMQPErrorKind}
use Rattle.lapin_types.specs.declared.reply_code.AMQPErrorKind.TheVariants as kind

-- the soft error of a reply code
abbrev pub soft_error : ℕ → Option AMQPSoftError
soft_error code =
    if code == 311 then Some soft.CONTENTTOOLARGE else
    if code == 312 then Some soft.NOROUTE else
    if code == 313 then Some soft.NOCONSUMERS else
    if code == 403 then Some soft.ACCESSREFUSED else
    if code == 404 then Some soft.NOTFOUND else
    if code == 405 then Some soft.RESOURCELOCKED else
    if code == 406 then Some soft.PRECONDITIONFAILED else
    None

-- the hard error of a reply code
abbrev pub hard_error : ℕ → Option AMQPHardError
hard_error code =
    if code == 320 then Some hard.CONNECTIONFORCED else
    if code == 402 then Some hard.INVALIDPATH else
    if code == 501 then Some hard.FRAMEERROR else
    if code == 502 then Some hard.SYNTAXERROR else
    if code == 503 then Some hard.COMMANDINVALID else
    if code == 504 then Some hard.CHANNELERROR else
    if code == 505 then Some hard.UNEXPECTEDFRAME else
    if code == 506 then Some hard.RESOURCEERROR else
    if code == 530 then Some hard.NOTALLOWED else
    if code == 540 then Some hard.NOTIMPLEMENTED else
    if code == 541 then Some hard.INTERNALERROR else
    None

-- the kind that has one of the two, a soft error first
abbrev pub kind_of : Option AMQPSoftError → Option AMQPHardError → Option AMQPErrorKind
kind_of (Some error) _ = Some (kind.Soft error)
kind_of None (Some error) = Some (kind.Hard error)
kind_of None None = None

-- the kind of a reply code, None for any other code
abbrev pub error_kind : ℕ → Option AMQPErrorKind
error_kind code = kind_of (soft_error code) (hard_error code)
