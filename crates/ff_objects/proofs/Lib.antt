mod CheckLemmas
mod DropLemmas
mod LookLemmas
