-- Cutting a text by its characters gives its lines, and counts them.
use Rattle.std.proofs.Common.{◌≡◌, ℕ, pred, ◌+◌, ◌<◌, ◌≤◌, Bool, true, false, List, [], ◌∷◌, ◌++◌, length, take, refl, sym, ap, subst, ◌∙◌, append_assoc, append-nil, add-one, arith}
use Rattle.std.specs.Prelude.{◌==◌, ◌||◌, not, if◌then◌else◌}
use Rattle.std.specs.Char.Escape.{encode_utf16}
use Rattle.std.proofs.lemmas.Bool.{cond_both}
use Rattle.std.proofs.lemmas.Bool.Decides.{nat_tests}
use Rattle.pi_asmtext.specs.declared.file.Token.{Token}
use Rattle.pi_asmtext.specs.declared.file.AsmLine.{AsmLine}
use Rattle.pi_asmtext.specs.declared.tokens.Cutter.{Cutter}
use Rattle.pi_asmtext.specs.declared.tokens.Mode.{Mode}
use Rattle.pi_asmtext.specs.declared.tokens.Mode.TheVariants.{Between, Run, Quoted, Escaped, Comment}
use Rattle.pi_asmtext.specs.Tokens.{before_line, lines, is_mark, in_run, run_length, string_length, units_of, tokens_from, nonempty_line, lines_from, lines_of}
use Rattle.pi_asmtext.specs.Cutting.{at_start, with_character, with_token, token_end_in, token_end, token_start, run_step, unquoted_step, string_step, mode_step, line_step, with_line, ended_line, text_step, text_steps}

-- the token that is read, with so many more characters, and the tokens behind it
abbrev pub begun : Cutter → ℕ → List ℕ → List Token
begun m n cs = m.tokens ++ record { column = m.start; units = m.units ++ units_of (take n cs) } ∷ tokens_from m.column n cs

-- the tokens of the line, of which the rest is still to be read
abbrev pub line_tokens : Mode → Cutter → List ℕ → List Token
line_tokens Between m cs = m.tokens ++ tokens_from m.column 0 cs
line_tokens Comment m cs = m.tokens
line_tokens Run m cs = begun m (run_length cs) cs
line_tokens Quoted m cs = begun m (string_length false cs) cs
line_tokens Escaped m cs = begun m (string_length true cs) cs

-- no token is read outside of tokens
abbrev pub Clean : Mode → Cutter → Type 0
Clean Between m = m.units ≡ []
Clean Comment m = m.units ≡ []
Clean _ m = Unit {0}

abbrev pub stepped : Cutter → Cutter
stepped m = record m { column = m.column + 1 }

grow : (u : List ℕ) (c n : ℕ) (cs : List ℕ) → (u ++ encode_utf16 c) ++ units_of (take n cs) ≡ u ++ units_of (take (n + 1) (c ∷ cs))
grow u c n cs = rw (add-one) (append_assoc u (encode_utf16 c) (units_of (take n cs)))

-- one more character of a token
more : (m : Cutter) (c n : ℕ) (cs : List ℕ) → begun (stepped (with_character m c)) n cs ≡ begun m (n + 1) (c ∷ cs)
more m c n cs = rw (grow m.units c n cs, add-one) refl

-- a token ends with its last character
last : (m : Cutter) (c : ℕ) (cs : List ℕ) → line_tokens Between (stepped (with_token (with_character m c))) cs ≡ begun m 1 (c ∷ cs)
last m c cs = rw (append_assoc, append-nil) refl

-- a token of one character
alone : (m : Cutter) (c : ℕ) (cs : List ℕ) → m.units ≡ [] → line_tokens Between (stepped (token_end (token_start Run (record m { mode = Between }) c))) cs
    ≡ m.tokens ++ record { column = m.column; units = units_of (take 1 (c ∷ cs)) } ∷ tokens_from (m.column + 1) 0 cs
alone m c cs e = rw (e, append_assoc, append-nil) refl

-- a token begins
begins : (m : Cutter) (c n : ℕ) (cs : List ℕ) (mode : Mode) → m.units ≡ [] → begun (stepped (token_start mode (record m { mode = Between }) c)) n cs
    ≡ m.tokens ++ record { column = m.column; units = units_of (take (n + 1) (c ∷ cs)) } ∷ tokens_from (m.column + 1) (pred (n + 1)) cs
begins m c n cs mode e = rw (e, grow [] c n cs) (simp add-one)

-- a character leaves the tokens of the line as they are, and no token is read outside of tokens behind it
abbrev pub Keeps : Mode → Cutter → ℕ → List ℕ → Cutter → Type 0
Keeps mode m c cs n = Clean n.mode (stepped n) × (line_tokens n.mode (stepped n) cs ≡ line_tokens mode m (c ∷ cs))

-- a character between tokens, by what it is
between : (m : Cutter) (c : ℕ) (cs : List ℕ) (blank hash quote mark : Bool) → m.mode ≡ Between → m.units ≡ []
    → (c == 32) ≡ blank → (c == 35) ≡ hash → (c == 34) ≡ quote → is_mark c ≡ mark → Keeps Between m c cs (unquoted_step m c)
between m c cs true hash quote mark e u s h q k = rw (e, s) (u, refl)
between m c cs false true quote mark e u s h q k = rw (e, s, h) (u, sym (append-nil m.tokens))
between m c cs false false true mark e u s h q k = rw (e, s, h, q) (tt, begins m c (string_length false cs) cs Quoted u)
between m c cs false false false true e u s h q k = rw (e, s, h, q, k) (refl, alone m c cs u)
between m c cs false false false false e u s h q k = rw (e, s, h, q, k) (tt, begins m c (run_length cs) cs Run u)

all_between : (m : Cutter) (c : ℕ) (cs : List ℕ) → m.mode ≡ Between → m.units ≡ [] → Keeps Between m c cs (unquoted_step m c)
all_between m c cs e u = between m c cs (c == 32) (c == 35) (c == 34) (is_mark c) e u refl refl refl refl

-- where a run ends, it ends before the character
run_ends : (m : Cutter) (c : ℕ) (cs : List ℕ) → unquoted_step m c ≡ unquoted_step (with_token m) c → in_run c ≡ false → Keeps Run m c cs (unquoted_step m c)
run_ends m c cs same out =
    let ends : line_tokens Run m (c ∷ cs) ≡ line_tokens Between (with_token m) (c ∷ cs) = rw (out, append_assoc, append-nil) refl in
    rw (same, ends) (all_between (with_token m) c cs refl refl)

no_run : (a b : Bool) → not (a || (true || b)) ≡ false
no_run true b = refl
no_run false b = refl

-- a character behind those of a run
runs : (m : Cutter) (c : ℕ) (cs : List ℕ) (blank hash quote mark : Bool) → m.mode ≡ Run
    → (c == 32) ≡ blank → (c == 35) ≡ hash → (c == 34) ≡ quote → is_mark c ≡ mark → Keeps Run m c cs (unquoted_step m c)
runs m c cs true hash quote mark e s h q k = run_ends m c cs (rw (e, s) refl) (rw s refl)
runs m c cs false true quote mark e s h q k = run_ends m c cs (rw (e, s, h) refl) (rw (s, h) (no_run (c == 34) (is_mark c)))
runs m c cs false false true mark e s h q k = run_ends m c cs (rw (e, s, h, q) refl) (rw (s, q) refl)
runs m c cs false false false true e s h q k = run_ends m c cs (rw (e, s, h, q, k) refl) (rw (s, q, h, k) refl)
runs m c cs false false false false e s h q k = rw (e, s, h, q, k) (tt, more m c (run_length cs) cs)

-- a character of a string, by what it is
strings : (m : Cutter) (c : ℕ) (cs : List ℕ) (quote slash : Bool) → (c == 34) ≡ quote → (c == 92) ≡ slash → m.mode ≡ Quoted
    → Keeps Quoted m c cs (string_step m c)
strings m c cs true slash q b e = rw (q, e) (refl, last m c cs)
strings m c cs false true q b e = rw (q, b) (tt, more (record m { mode = Escaped }) c (string_length true cs) cs)
strings m c cs false false q b e = rw (q, b, e) (tt, more m c (string_length false cs) cs)

-- a character of a line
keeps : (mode : Mode) (m : Cutter) (c : ℕ) (cs : List ℕ) → m.mode ≡ mode → Clean mode m → Keeps mode m c cs (mode_step mode m c)
keeps Between m c cs e u = all_between m c cs e u
keeps Run m c cs e u = runs m c cs (c == 32) (c == 35) (c == 34) (is_mark c) e refl refl refl refl
keeps Comment m c cs e u = rw (e) (u, refl)
keeps Escaped m c cs e u = (tt, more (record m { mode = Quoted }) c (string_length false cs) cs)
keeps Quoted m c cs e u = strings m c cs (c == 34) (c == 92) refl refl e

-- the lines before stand, the number of the line and the column
abbrev pub Stands : Cutter → Cutter → Type 0
Stands m n = (n.lines ≡ m.lines) × (n.number ≡ m.number) × (n.column ≡ m.column)

token_end_stands : (mode : Mode) (m : Cutter) → Stands m (token_end_in mode m)
token_end_stands Between m = (refl, refl, refl)
token_end_stands _ m = (refl, refl, refl)

run_step_stands : (mode : Mode) (m : Cutter) (c : ℕ) → Stands m (run_step mode m c)
run_step_stands Run m c = (refl, refl, refl)
run_step_stands _ m c = token_end_stands m.mode m

unquoted_stands : (m : Cutter) (c : ℕ) → Stands m (unquoted_step m c)
unquoted_stands m c =
    let d = token_end_stands m.mode m in
    cond_both (c == 32) _ _ (Stands m) (λ s. d) (λ s. cond_both (c == 35) _ _ (Stands m) (λ h. d)
    (λ h. cond_both (c == 34) _ _ (Stands m) (λ q. d) (λ q. cond_both (is_mark c) _ _ (Stands m) (λ k. d) (λ k. run_step_stands m.mode m c))))

inside_stands : (mode : Mode) (m : Cutter) (c : ℕ) → m.mode ≡ mode → Stands m (mode_step mode m c)
inside_stands Comment m c e = (refl, refl, refl)
inside_stands Escaped m c e = (refl, refl, refl)
inside_stands Quoted m c e =
    cond_both (c == 34) _ _ (Stands m) (λ q. rw e (refl, refl, refl))
    (λ q. cond_both (c == 92) _ _ (Stands m) (λ b. (refl, refl, refl)) (λ b. (refl, refl, refl)))
inside_stands _ m c e = unquoted_stands m c

-- the line has what it has, and nothing behind it; behind it no token is read
abbrev pub Ended : Mode → Cutter → Cutter → Type 0
Ended mode m n = (n.tokens ≡ line_tokens mode m []) × (n.mode ≡ Between) × (Clean mode m → n.units ≡ [])

token_end_ends : (mode : Mode) (m : Cutter) → Ended mode m (token_end_in mode m)
token_end_ends Between m = (sym (append-nil m.tokens), refl, λ u. u)
token_end_ends Comment m = (refl, refl, λ u. u)
token_end_ends _ m = (rw (append-nil) refl, refl, λ u. refl)

-- what becomes of a line that ends
with_line_is : (m : Cutter) (ts : List Token) (others : List AsmLine) → m.tokens ≡ ts
    → ((with_line ts m).lines ++ others ≡ m.lines ++ nonempty_line m.number ts others) × ((with_line ts m).tokens ≡ [])
    × ((with_line ts m).mode ≡ m.mode) × ((with_line ts m).units ≡ m.units) × ((with_line ts m).number ≡ m.number)
with_line_is m [] others e = (refl, e, refl, refl, refl)
with_line_is m (t ∷ ts) others e = (append_assoc m.lines _ others, refl, refl, refl, refl)

line_ends : (m : Cutter) (others : List AsmLine) → (ended_line m).lines ++ others ≡ m.lines ++ nonempty_line m.number (line_tokens m.mode m []) others
line_ends m others =
    let s = token_end_stands m.mode m in
    (with_line_is (token_end m) (token_end m).tokens others refl).0 ∙ rw (s.0, s.1, (token_end_ends m.mode m).0) refl

ended_number : (m : Cutter) → (ended_line m).number ≡ m.number
ended_number m = (with_line_is (token_end m) (token_end m).tokens [] refl).4 ∙ (token_end_stands m.mode m).1

-- behind a newline, and behind a character of the line
abbrev pub newline : Cutter → Cutter
newline m = record (ended_line m) { number = (ended_line m).number + 1; column = 1 }

abbrev pub inside : Cutter → ℕ → Cutter
inside m c = stepped (line_step m c)

newline_fresh : (m : Cutter) → Clean m.mode m → ((newline m).mode ≡ Between) × ((newline m).tokens ≡ []) × ((newline m).units ≡ [])
newline_fresh m clean =
    let w = with_line_is (token_end m) (token_end m).tokens [] refl in
    let c = token_end_ends m.mode m in (w.2 ∙ c.1, w.1, w.3 ∙ c.2 clean)

-- all lines, and the number of the line behind the last, where some of the characters are still to be read
abbrev pub all_lines : Cutter → List (List ℕ) → List AsmLine
all_lines m [] = m.lines ++ nonempty_line m.number (line_tokens m.mode m []) []
all_lines m (line ∷ others) = m.lines ++ nonempty_line m.number (line_tokens m.mode m line) (lines_from (m.number + 1) others)

abbrev pub count_after : Cutter → List (List ℕ) → ℕ
count_after m [] = if m.column == 1 then m.number else m.number + 1
count_after m (l ∷ ls) = m.number + 1 + length ls

fresh : (n : Cutter) (ls : List (List ℕ)) → n.mode ≡ Between → n.tokens ≡ [] → n.column ≡ 1 → all_lines n ls ≡ n.lines ++ lines_from n.number ls
fresh n [] e t o = rw (e, t) refl
fresh n (l ∷ ls) e t o = rw (e, t, o) refl

lines_at_newline : (m : Cutter) (ls : List (List ℕ)) → Clean m.mode m → all_lines (newline m) ls ≡ all_lines m ([] ∷ ls)
lines_at_newline m ls clean =
    let f = newline_fresh m clean in
    fresh (newline m) ls f.0 f.1 refl ∙ line_ends m (lines_from ((newline m).number) ls)
    ∙ ap (λ (k : ℕ). m.lines ++ nonempty_line m.number (line_tokens m.mode m []) (lines_from (k + 1) ls)) (ended_number m)

count_at_newline : (m : Cutter) (ls : List (List ℕ)) → count_after (newline m) ls ≡ count_after m ([] ∷ ls)
count_at_newline m [] = let n = ended_number m in omega arith
count_at_newline m (l ∷ ls) = let n = ended_number m in omega arith

same_lines : (a b : List AsmLine) (n k : ℕ) (t u : List Token) (f : ℕ → List AsmLine) → a ≡ b → n ≡ k → t ≡ u
    → a ++ nonempty_line n t (f n) ≡ b ++ nonempty_line k u (f k)
same_lines a b n k t u f p q r = rw (p, q, r) refl

lines_inside : (m : Cutter) (c : ℕ) (ls : List (List ℕ)) → Clean m.mode m → all_lines (inside m c) ls ≡ all_lines m (before_line c ls)
lines_inside m c [] clean =
    let s = inside_stands m.mode m c refl in same_lines _ m.lines _ m.number _ _ (λ k. []) s.0 s.1 (keeps m.mode m c [] refl clean).1
lines_inside m c (l ∷ ls) clean =
    let s = inside_stands m.mode m c refl in
    same_lines _ m.lines _ m.number _ _ (λ k. lines_from (k + 1) ls) s.0 s.1 (keeps m.mode m c l refl clean).1

count_inside : (m : Cutter) (c : ℕ) (ls : List (List ℕ)) → 0 < m.column → count_after (inside m c) ls ≡ count_after m (before_line c ls)
count_inside m c [] lt =
    let s = inside_stands m.mode m c refl in
    let far : (inside m c).column ≡ m.column + 1 = ap (λ (k : ℕ). k + 1) s.2 in
    let not : ((inside m c).column == 1) ≡ false = grind (arith, nat_tests) in
    rw not (let n = s.1 in omega arith)
count_inside m c (l ∷ ls) lt = let n = (inside_stands m.mode m c refl).1 in omega arith

-- what is read at the end is what stands before the rest of the text and the rest
abbrev Gives : Cutter → Cutter → List (List ℕ) → Type 0
Gives end m ls = ((ended_line end).lines ≡ all_lines m ls) × (count_after end [] ≡ count_after m ls)

abbrev Reads : Cutter → List ℕ → Type 0
Reads m cs = Gives (text_steps m cs) m (lines cs)

reads_behind : (m n : Cutter) (c : ℕ) (cs : List ℕ) → text_step m c ≡ n → Gives (text_steps n cs) m (lines (c ∷ cs)) → Reads m (c ∷ cs)
reads_behind m n c cs same h = subst (λ (k : Cutter). Gives (text_steps k cs) m (lines (c ∷ cs))) (sym same) h

reads_by : (m : Cutter) (c : ℕ) (cs : List ℕ) (t : Bool) → (c == 10) ≡ t → Clean m.mode m → 0 < m.column
    → ((n : Cutter) → Clean n.mode n → 0 < n.column → Reads n cs) → Reads m (c ∷ cs)
reads_by m c cs true e clean lt again =
    let f = newline_fresh m clean in
    let i = again (newline m) (rw (f.0) f.2) (omega arith) in
    reads_behind m (newline m) c cs (rw e refl)
    (rw e (i.0 ∙ lines_at_newline m (lines cs) clean, i.1 ∙ count_at_newline m (lines cs)))
reads_by m c cs false e clean lt again =
    let far : (inside m c).column ≡ m.column + 1 = ap (λ (k : ℕ). k + 1) (inside_stands m.mode m c refl).2 in
    let i = again (inside m c) (keeps m.mode m c [] refl clean).0 (omega arith) in
    reads_behind m (inside m c) c cs (rw e refl)
    (rw e (i.0 ∙ lines_inside m c (lines cs) clean, i.1 ∙ count_inside m c (lines cs) lt))

reads : (cs : List ℕ) (m : Cutter) → Clean m.mode m → 0 < m.column → Reads m cs
reads [] m clean lt = (sym (append-nil _) ∙ line_ends m [], refl)
reads (c ∷ cs) m clean lt = reads_by m c cs (c == 10) refl clean lt (reads cs)

-- the lines that are cut are those of the text
pub cut_lines : (cs : List ℕ) → (ended_line (text_steps at_start cs)).lines ≡ lines_of cs
cut_lines cs = (reads cs at_start refl (omega arith)).0 ∙ fresh at_start (lines cs) refl refl refl

at_first : (ls : List (List ℕ)) → count_after at_start ls ≡ length ls + 1
at_first [] = refl
at_first (l ∷ ls) = omega arith

-- the line behind the last
pub cut_after : (cs : List ℕ) → count_after (text_steps at_start cs) [] ≡ length (lines cs) + 1
cut_after cs = (reads cs at_start refl (omega arith)).1 ∙ at_first (lines cs)

-- the numbers of line and column rise by at most one
pub rises : (m : Cutter) (c : ℕ) → ((text_step m c).number ≤ m.number + 1) × ((text_step m c).column ≤ m.column + 1)
rises m c = by (c == 10) refl
  where
    by : (t : Bool) → (c == 10) ≡ t → ((text_step m c).number ≤ m.number + 1) × ((text_step m c).column ≤ m.column + 1)
    by true e = let n = ended_number m in rw e (omega arith, omega arith)
    by false e =
        let s = inside_stands m.mode m c refl in
        let a : (inside m c).number ≡ m.number = s.1 in
        let b : (inside m c).column ≡ m.column + 1 = ap (λ (k : ℕ). k + 1) s.2 in
        rw e (omega arith, omega arith)

-- one more character
pub one_more : (m : Cutter) (cs : List ℕ) (c : ℕ) → text_steps m (cs ++ c ∷ []) ≡ text_step (text_steps m cs) c
one_more m [] c = refl
one_more m (d ∷ ds) c = one_more (text_step m d) ds c
