-- Frames, and how they stand in a store of words.
use Rattle.std.specs.Prelude.{◌≡◌, ℕ, zero, suc, ◌+◌, ◌<◌, ◌≤◌, ◌^◌, List, [], ◌∷◌, length, take, drop, replicate, sum_by, slice_get, slice_index, slice_set, IsSomeAnd}
use Rattle.pi_model.specs.declared.numbers.MethodNo.{MethodNo}

-- a frame: its method, the unit of its code that is next, and its registers, each a word
pub record Frame : Type 0 where
  pub method : MethodNo
  pub pc : ℕ
  pub regs : List ℕ

-- the frames, the top one first, and how many words they may take
pub record Stack : Type 0 where
  pub frames : List Frame
  pub limit : ℕ

-- a frame that was just made
abbrev pub fresh : MethodNo → ℕ → Frame
fresh m count = record { method = m; pc = 0; regs = replicate count 0 }

-- the words of a frame, and of all frames
abbrev pub frame_words : Frame → ℕ
frame_words f = length f.regs + 4

abbrev pub all_words : List Frame → ℕ
all_words fs = sum_by frame_words fs

-- there is a top frame, and it has the register
abbrev pub HasRegister : List Frame → ℕ → Type 0
HasRegister fs i = IsSomeAnd (slice_get fs 0) (λ f. i < length f.regs)

-- the frames with another word in a register of the top one, or with another next unit there
abbrev pub with_register : ℕ → ℕ → List Frame → List Frame
with_register i v [] = []
with_register i v (f ∷ fs) = record f { regs = slice_set f.regs i v } ∷ fs

abbrev pub with_pc : ℕ → List Frame → List Frame
with_pc at [] = []
with_pc at (f ∷ fs) = record f { pc = at } ∷ fs

-- the words of a frame: its method, its next unit, the number of its registers, one to spare, and the registers
abbrev pub method_of : ℕ → MethodNo
method_of n = record { 0 = n }

abbrev pub frame_in : List ℕ → Frame
frame_in words = record { method = method_of (slice_index words 0); pc = slice_index words 1; regs = take (slice_index words 2) (drop 4 words) }

-- the words behind those of the first frame
abbrev pub words_behind : List ℕ → List ℕ
words_behind words = drop (slice_index words 2) (drop 4 words)

-- so many frames in words, one behind the other
abbrev pub frames_in : ℕ → List ℕ → List Frame
frames_in zero words = []
frames_in (suc depth) words = frame_in words ∷ frames_in depth (words_behind words)

-- the words are those of so many frames, and no more
abbrev pub IsWhole : ℕ → List ℕ → Type 0
IsWhole zero words = length words ≡ 0
IsWhole (suc depth) words = (slice_index words 2 + 4 ≤ length words) × IsWhole depth (words_behind words)

-- the frames stand at the end of the store, the top one first
pub record IsKept (words : List ℕ) (top depth : ℕ) : Type 0 where
  pub within : top ≤ length words
  pub small : length words < 2 ^ 32
  pub whole : IsWhole depth (drop top words)
