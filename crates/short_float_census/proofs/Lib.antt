-- Cases that are computed.
mod Examples
