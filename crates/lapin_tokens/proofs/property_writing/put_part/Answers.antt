use Rattle.lapin_tokens.proofs.property_writing.put_part.Goals as goal

pub returns-in-ContentType : goal.returns-in-ContentType
returns-in-ContentType c = rw c.in-ContentType.is (rw (c.in-ContentType.is, c.content_type.ensures) at c.put_text.ensures)

pub returns-in-ContentEncoding : goal.returns-in-ContentEncoding
returns-in-ContentEncoding c = rw c.in-ContentEncoding.is (rw (c.in-ContentEncoding.is, c.content_encoding.ensures) at c.put_text-in-ContentEncoding.ensures)

pub returns-in-Headers : goal.returns-in-Headers
returns-in-Headers c = rw c.in-Headers.is (rw c.headers.ensures at c.put_headers.ensures)

pub returns-in-DeliveryMode : goal.returns-in-DeliveryMode
returns-in-DeliveryMode c = rw c.in-DeliveryMode.is (rw (c.in-DeliveryMode.is, c.wide.ensures, c.delivery_mode.ensures) at c.put_count.ensures)

pub returns-in-Priority : goal.returns-in-Priority
returns-in-Priority c = rw c.in-Priority.is (rw (c.in-Priority.is, c.wide-in-Priority.ensures, c.priority.ensures) at c.put_count-in-Priority.ensures)

pub returns-in-CorrelationId : goal.returns-in-CorrelationId
returns-in-CorrelationId c = rw c.in-CorrelationId.is (rw (c.in-CorrelationId.is, c.correlation_id.ensures) at c.put_text-in-CorrelationId.ensures)

pub returns-in-ReplyTo : goal.returns-in-ReplyTo
returns-in-ReplyTo c = rw c.in-ReplyTo.is (rw (c.in-ReplyTo.is, c.reply_to.ensures) at c.put_text-in-ReplyTo.ensures)

pub returns-in-Expiration : goal.returns-in-Expiration
returns-in-Expiration c = rw c.in-Expiration.is (rw (c.in-Expiration.is, c.expiration.ensures) at c.put_text-in-Expiration.ensures)

pub returns-in-MessageId : goal.returns-in-MessageId
returns-in-MessageId c = rw c.in-MessageId.is (rw (c.in-MessageId.is, c.message_id.ensures) at c.put_text-in-MessageId.ensures)

pub returns-in-Timestamp : goal.returns-in-Timestamp
returns-in-Timestamp c = rw c.in-Timestamp.is (rw (c.in-Timestamp.is, c.timestamp.ensures) at c.put_count-in-Timestamp.ensures)

pub returns-in-Kind : goal.returns-in-Kind
returns-in-Kind c = rw c.in-Kind.is (rw (c.in-Kind.is, c.kind.ensures) at c.put_text-in-Kind.ensures)

pub returns-in-UserId : goal.returns-in-UserId
returns-in-UserId c = rw c.in-UserId.is (rw (c.in-UserId.is, c.user_id.ensures) at c.put_text-in-UserId.ensures)

pub returns-in-AppId : goal.returns-in-AppId
returns-in-AppId c = rw c.in-AppId.is (rw (c.in-AppId.is, c.app_id.ensures) at c.put_text-in-AppId.ensures)

pub returns-in-ClusterId : goal.returns-in-ClusterId
returns-in-ClusterId c = rw c.in-ClusterId.is (rw (c.in-ClusterId.is, c.cluster_id.ensures) at c.put_text-in-ClusterId.ensures)
