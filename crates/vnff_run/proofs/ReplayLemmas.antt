-- Lines and states behind the items of a script, item by item.
use Rattle.std.proofs.Common.{◌≡◌, ℕ, ◌+◌, ◌<◌, List, [], ◌∷◌, ◌++◌, length, get_or, take, refl, sym, ap, ◌∙◌, zero-add}
use Rattle.std.specs.List.{range_with_len}
use Rattle.std.proofs.lemmas.List.{take_more}
use Rattle.std.proofs.lemmas.List.FromFn.{get_or-range_with_len, length-range_with_len}
use Rattle.std.proofs.lemmas.Option.{slice_get_read}
use Rattle.cap_table.specs.States.{DeviceState}
use Rattle.cap_table.specs.Steps.{state_after, next_state}
use Rattle.vnff_run.specs.Replay.{item_line, line_in, line_at, state_after_items}
use Rattle.vnff_run.specs.declared.script.Item.{Item}
use Rattle.vnff_run.specs.declared.script.Item.TheVariants.{Admin, Frame}

-- items one after another
pub state_after_items-append : (state : DeviceState) (xs ys : List Item) → state_after_items state (xs ++ ys) ≡ state_after_items (state_after_items state xs) ys
unfolding state_after
state_after_items-append state [] ys = refl
state_after_items-append state (Admin line ∷ xs) ys = state_after_items-append (next_state state line.bytes line.room) xs ys
state_after_items-append state (Frame frame ∷ xs) ys = state_after_items-append state xs ys

-- one more item
pub state_after_items-take_more : (state : DeviceState) (items : List Item) (i : ℕ) (item : Item) → i < length items → item ≡ get_or items i item → state_after_items state (take (i + 1) items) ≡ state_after_items (state_after_items state (take i items)) (item ∷ [])
state_after_items-take_more state items i item within is =
    ap (state_after_items state) (take_more items i item within) ∙ state_after_items-append state (take i items) (get_or items i item ∷ [])
    ∙ ap (λ x. state_after_items (state_after_items state (take i items)) (x ∷ [])) (sym is)

-- the line at the place of an item
pub line_at-item : (state : DeviceState) (items : List Item) (i : ℕ) (item : Item) → i < length items → item ≡ get_or items i item → line_at state items i ≡ item_line (state_after_items state (take i items)) item
unfolding line_at
line_at-item state items i item within is =
    ap (line_in (state_after_items state (take i items))) (slice_get_read items (length items) i item refl within is)

-- the line of an item, in the state that the items before it left
pub line_is : (start state : DeviceState) (items : List Item) (i : ℕ) (item : Item) → state ≡ state_after_items start (take i items) → i < length items → item ≡ get_or items i item → item_line state item ≡ line_at start items i
line_is start state items i item left within is =
    ap (λ s. item_line s item) left ∙ sym (line_at-item start items i item within is)

-- the state behind one more item
pub state_is : (start state next : DeviceState) (items : List Item) (i : ℕ) (item : Item) → state ≡ state_after_items start (take i items) → i < length items → item ≡ get_or items i item → next ≡ state_after_items state (item ∷ []) → next ≡ state_after_items start (take (i + 1) items)
state_is start state next items i item left within is moved =
    moved ∙ ap (λ s. state_after_items s (item ∷ [])) left ∙ sym (state_after_items-take_more start items i item within is)

-- the places of a list are below its length, each the one that it counts
pub place_within : (n i : ℕ) → i < n → i < length (range_with_len 0 n)
place_within n i within = rw length-range_with_len within

pub place_is : (n i : ℕ) → i < n → i ≡ get_or (range_with_len 0 n) i i
place_is n i within = sym (get_or-range_with_len 0 n i i within ∙ zero-add i)
