mod Each
mod Input
