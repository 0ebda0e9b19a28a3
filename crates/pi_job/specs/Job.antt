-- What a job text says, line by line, and the rules of each line.
use Rattle.std.specs.Prelude.{ℕ, ◌+◌, ◌==◌, ◌&&◌, ◌||◌, not, nat_eq, nat_lt, List, [], ◌∷◌, ◌++◌, length, take, drop, codes, Bool, false, Option, Some, None, is_some, is_none, Result, if◌then◌else◌, option_and_then, option_map}
use Rattle.std.specs.List.{list_any, slice_split}
use Rattle.std.specs.Cmp.Lexicographic.{pointwise}
use Rattle.std.specs.Str.{is_utf8}
use Rattle.pi_model.specs.declared.numbers.Addr.{Addr}
use Rattle.pi_job.specs.declared.job.ImageLine.{ImageLine}
use Rattle.pi_job.specs.declared.job.Job.{Job}
use Rattle.pi_job.specs.declared.draft.Draft.{Draft}
use Rattle.pi_job.specs.Lines.{lines}
use Rattle.pi_job.specs.Telling.{told_from}
use Rattle.pi_job.specs.Taking.{SaysWhole, IsFirstBroken}
use Rattle.pi_job.specs.Units.{units_of}
use Rattle.pi_job.specs.Numbers.{number_in, most_word}

-- two names are the same
abbrev pub same_name : List ℕ → List ℕ → Bool
same_name a b = pointwise nat_eq a b

-- a name begins with the sign of names that are no files
abbrev pub begins_at : List ℕ → Bool
begins_at [] = false
begins_at (b ∷ bs) = b == 64

-- a DEX name: not empty, and if it begins with that sign the core library's
abbrev pub is_dex_name : List ℕ → Bool
is_dex_name [] = false
is_dex_name (b ∷ bs) = not (b == 64) || same_name (b ∷ bs) (codes "@core")

-- an IMG name: not empty, and not one with that sign
abbrev pub is_img_name : List ℕ → Bool
is_img_name [] = false
is_img_name (b ∷ bs) = not (b == 64)

-- the selection that a field names, none where it is a dash
abbrev pub selection_named : List ℕ → Option (List ℕ)
selection_named name = if same_name name (codes "-") then None else Some name

-- the selection has that name
abbrev pub is_selection : List ℕ → Option (List ℕ) → Bool
is_selection name None = false
is_selection name (Some selection) = same_name selection name

-- the image of a line has that name
abbrev pub has_img : List ℕ → ImageLine → Bool
has_img name image = same_name image.img name

-- a name of that line is that name
abbrev pub has_name : List ℕ → ImageLine → Bool
has_name name image = same_name image.img name || (same_name image.dex name || is_selection name image.selection)

-- one of the images has that name
abbrev pub is_img : List ImageLine → List ℕ → Bool
is_img images name = list_any (has_img name) images

-- a name on an image line is that name
abbrev pub is_taken : List ImageLine → List ℕ → Bool
is_taken images name = list_any (has_name name) images

-- the selection is one of the images
abbrev pub selects_img : List ImageLine → Option (List ℕ) → Bool
selects_img images None = false
selects_img images (Some name) = is_img images name

-- The names of an image line keep the rules: its IMG is not the job's, none of a line before and none of its own line, and
-- its DEX and its selection are no IMG of a line before.
abbrev pub names_apart : List ℕ → List ImageLine → ImageLine → Bool
names_apart job images image =
    not (same_name image.img job || (is_taken images image.img || (same_name image.dex image.img || (is_selection image.img image.selection
    || (is_img images image.dex || selects_img images image.selection)))))

-- there is room for one more image or DEX line
abbrev pub has_place : Draft → Bool
has_place d = nat_lt (length d.images + length d.dexes) 8

-- no DEX line and no line of a later kind stands before
abbrev pub takes_image : Draft → Bool
takes_image d = has_place d && ((length d.dexes == 0) && is_none d.heap)

-- no line of a kind behind DEX lines stands before
abbrev pub takes_dex : Draft → Bool
takes_dex d = has_place d && is_none d.heap

-- the numbers of an image line: its two bases and its steps
abbrev pub image_numbers : List ℕ → List ℕ → List ℕ → Option (ℕ × ℕ × ℕ)
image_numbers at load budget =
    option_and_then (λ a. option_and_then (λ l. option_map (λ n. (a, l, n)) (number_in 1 1000000000 budget)) (number_in 0 most_word load))
    (number_in 0 most_word at)

-- the six fields of an image line
abbrev pub image_of : List ℕ → List ℕ → List ℕ → List ℕ → List ℕ → List ℕ → Option ImageLine
image_of dex img at load selection budget =
    if is_dex_name dex && (is_img_name img && nat_lt 0 (length selection)) then
    option_map (λ (n : ℕ × ℕ × ℕ). record {
      dex = dex;
      img = img;
      at = record { 0 = n.0 };
      load = record { 0 = n.1 };
      selection = selection_named selection;
      budget = n.2;
    }) (image_numbers at load budget)
    else None

-- a job with one more image
abbrev pub with_image : List ℕ → Draft → ImageLine → Option Draft
with_image job d image =
    if takes_image d && names_apart job d.images image then Some (record d { images = d.images ++ image ∷ [] }) else None

-- a job with one more DEX file
abbrev pub with_dex : Draft → List ℕ → Option Draft
with_dex d name =
    if takes_dex d && (is_dex_name name && not (is_img d.images name)) then Some (record d { dexes = d.dexes ++ name ∷ [] }) else None

-- a job with the base and the bytes of its heap, behind at least one image or DEX line
abbrev pub with_heap : Draft → List ℕ → List ℕ → Option Draft
with_heap d base bytes =
    if nat_lt 0 (length d.images + length d.dexes) && is_none d.heap then
    option_and_then (λ a. option_map (λ n. record d { heap = Some (record { 0 = a }, n) }) (number_in 16 268435456 bytes))
    (number_in 0 most_word base)
    else None

-- a job with the words of its frames, behind the heap
abbrev pub with_frames : Draft → List ℕ → Option Draft
with_frames d words =
    if is_some d.heap && is_none d.frames then option_map (λ n. record d { frames = Some n }) (number_in 16 16777216 words)
    else None

-- a job with its steps, behind the frames
abbrev pub with_steps : Draft → List ℕ → Option Draft
with_steps d steps =
    if is_some d.frames && is_none d.steps then option_map (λ n. record d { steps = Some n }) (number_in 0 1000000000000 steps)
    else None

-- a job with its main class, behind the steps
abbrev pub with_main : Draft → List ℕ → Option Draft
with_main d name =
    if is_some d.steps && (is_none d.main && nat_lt 0 (length name)) then Some (record d { main = Some (units_of name) }) else None

-- a job with one more argument, behind main
abbrev pub with_arg : Draft → List ℕ → Option Draft
with_arg d text =
    if is_some d.main && nat_lt (length d.args) 64 then Some (record d { args = d.args ++ units_of text ∷ [] }) else None

-- a line of a kind and one field
abbrev pub with_one : Draft → List ℕ → List ℕ → Option Draft
with_one d kind value =
    if same_name kind (codes "dex") then with_dex d value
    else if same_name kind (codes "frames") then with_frames d value
    else if same_name kind (codes "steps") then with_steps d value
    else if same_name kind (codes "main") then with_main d value
    else None

-- a line of a kind and two fields
abbrev pub with_two : Draft → List ℕ → List ℕ → List ℕ → Option Draft
with_two d kind a b = if same_name kind (codes "heap") then with_heap d a b else None

-- a line of a kind and the image that its six fields are
abbrev pub with_six : List ℕ → Draft → List ℕ → Option ImageLine → Option Draft
with_six job d kind image = if same_name kind (codes "image") then option_and_then (with_image job d) image else None

-- a line by its fields
abbrev pub with_fields : List ℕ → Draft → List (List ℕ) → Option Draft
with_fields job d (k ∷ a ∷ []) = with_one d k a
with_fields job d (k ∷ a ∷ b ∷ []) = with_two d k a b
with_fields job d (k ∷ a ∷ b ∷ c ∷ e ∷ f ∷ g ∷ []) = with_six job d k (image_of a b c e f g)
with_fields job d _ = None

-- a line that is UTF-8: the rest behind "arg ", or its fields, which single spaces part
abbrev pub with_text : List ℕ → Draft → List ℕ → Option Draft
with_text job d line =
    if same_name (take 4 line) (codes "arg ") then with_arg d (drop 4 line)
    else with_fields job d (slice_split (λ b. b == 32) line)

-- the job so far with a line
abbrev pub line_added : List ℕ → Draft → List ℕ → Option Draft
line_added job d line = if is_utf8 line then with_text job d line else None

-- the whole job, where no line is wanting
abbrev pub whole_job : Draft → Option Job
whole_job d =
    option_and_then (λ (heap : Addr × ℕ). option_and_then (λ frames. option_and_then (λ steps. option_map (λ main. record {
      images = d.images;
      dexes = d.dexes;
      heap = heap.0;
      bytes = heap.1;
      frames = frames;
      steps = steps;
      main = main;
      args = d.args;
    }) d.main) d.steps) d.frames) d.heap

-- nothing was said
abbrev pub nothing_said : Draft
nothing_said = record { images = []; dexes = []; heap = None; frames = None; steps = None; main = None; args = [] }

-- the job that a text says, or its first wrong line
abbrev pub job_of : List ℕ → List ℕ → Result Job ℕ
job_of job bytes = told_from (line_added job) whole_job nothing_said 1 (lines bytes)

-- the lines of a text say that job: each is taken in turn, and none is wanting
abbrev pub SaysJob : List ℕ → List ℕ → Job → Type 0
SaysJob job bytes said = SaysWhole (line_added job) whole_job nothing_said (lines bytes) said

-- the first line of a text that breaks a rule of jobs has that number, or the line that is wanting at the end
abbrev pub IsWrongLine : List ℕ → List ℕ → ℕ → Type 0
IsWrongLine job bytes n = IsFirstBroken (line_added job) whole_job nothing_said (lines bytes) n
