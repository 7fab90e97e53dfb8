-- Which bytes are changed, of two memories and of three.
use Rattle.std.proofs.Common.{ℕ, List, refl, ◌∙◌}
use Rattle.guest_mem.specs.Memory.{ChangesOnly}

pub changes-none : (mem : List ℕ) (P : ℕ → Type 0) → ChangesOnly mem mem P
changes-none mem P = record { size = refl; others = λ addr out. refl }

-- a change of fewer bytes
pub changes-wider : (before after : List ℕ) (P Q : ℕ → Type 0) → ((addr : ℕ) → P addr → Q addr) → ChangesOnly before after P → ChangesOnly before after Q
changes-wider before after P Q wider changes = record { size = changes.size; others = λ addr out. changes.others addr (λ inside. out (wider addr inside)) }

-- one change after another
pub changes-then : (before mem after : List ℕ) (P Q R : ℕ → Type 0) → ((addr : ℕ) → P addr → R addr) → ((addr : ℕ) → Q addr → R addr) → ChangesOnly before mem P → ChangesOnly mem after Q → ChangesOnly before after R
changes-then before mem after P Q R first second one two = record {
  size = two.size ∙ one.size;
  others = λ addr out. two.others addr (λ inside. out (second addr inside)) ∙ one.others addr (λ inside. out (first addr inside));
}
