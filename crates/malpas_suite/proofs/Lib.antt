mod Regions
mod Rows
mod Safe
mod Settled
mod SliceRows
mod SpanLines
mod Tried
