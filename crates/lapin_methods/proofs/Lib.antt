mod Fields
mod AccessAlike
mod BasicAlike
mod ExchangeAlike
mod QueueAlike
