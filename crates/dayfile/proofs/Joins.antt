-- The lines of a file by its end, and the rows that give the file back. Assumes nothing.
use Rattle.std.proofs.Common.{◌≡◌, ℕ, ◌+◌, ◌<◌, Bool, true, false, cond, eqb, ◌⊎◌, List, [], ◌∷◌, ◌++◌, map, Some, None, Option, Bor, MatchOption, unwrap_or, ◌≢◌, length, sym, refl, ap, ◌∙◌, inl, inr, ⊎_elim, append_assoc, arith}
use Rattle.std.proofs.lemmas.Bool.{eqb-true}
use Rattle.std.proofs.lemmas.List.Splits.{join_with_byte-slice_split}
use Rattle.std.specs.List.{onto_first, join_with_byte}
use Rattle.dayfile.specs.Text.{split, without_empty_end, lines, placed, rows_from, rows, row_text, text_of, Rejoins}
use Rattle.dayfile.proofs.Pieces.{some_pieces}

-- an ending byte 10 starts no line
split_push : (bs : List ℕ) → split 10 (bs ++ 10 ∷ []) ≡ split 10 bs ++ [] ∷ []
split_push [] = refl
split_push (b ∷ bs) = rw (split_push bs) (step (eqb b 10) (split 10 bs) (some_pieces 10 bs))
  where
    step : (v : Bool) (ps : List (List ℕ)) → 0 < length ps → cond v ([] ∷ (ps ++ [] ∷ [])) (onto_first b (ps ++ [] ∷ [])) ≡ cond v ([] ∷ ps) (onto_first b ps) ++ [] ∷ []
    step true ps some = refl
    step false [] some = absurd (omega arith)
    step false (p ∷ ps) some = refl

without_push : (ps : List (List ℕ)) → without_empty_end (ps ++ [] ∷ []) ≡ ps
without_push [] = refl
without_push (p ∷ []) = refl
without_push (p ∷ q ∷ ps) = ap (λ l. p ∷ l) (without_push (q ∷ ps))

lines_ended : (bs : List ℕ) → split 10 bs ≡ lines (bs ++ 10 ∷ [])
lines_ended bs = sym (ap without_empty_end (split_push bs) ∙ without_push (split 10 bs))

-- another end ends the last line
kept : (b : ℕ) (v : Bool) (ps : List (List ℕ)) → 0 < length ps → without_empty_end ps ≡ ps → without_empty_end (cond v ([] ∷ ps) (onto_first b ps)) ≡ cond v ([] ∷ ps) (onto_first b ps)
kept b v [] some same = absurd (omega arith)
kept b true (p ∷ ps) some same = ap (λ l. [] ∷ l) same
kept b false (p ∷ []) some same = refl
kept b false (p ∷ q ∷ ps) some same = cc

lines_open : (b : ℕ) (bs : List ℕ) → ((front : List ℕ) → b ∷ bs ≢ front ++ 10 ∷ []) → split 10 (b ∷ bs) ≡ lines (b ∷ bs)
lines_open b [] other =
    elim (eqb b 10) as (λ v. (eqb b 10 ≡ v) → cond v ([] ∷ [] ∷ []) ((b ∷ []) ∷ []) ≡ without_empty_end (cond v ([] ∷ [] ∷ []) ((b ∷ []) ∷ [])))
    [ true ↦ (λ e. absurd (other [] (ap (λ x. x ∷ []) (eqb-true b 10 e)))) | false ↦ (λ e. refl) ] refl
lines_open b (c ∷ cs) other =
    sym (kept b (eqb b 10) (split 10 (c ∷ cs)) (some_pieces 10 (c ∷ cs)) (sym (lines_open c cs (λ front e. other (b ∷ front) (ap (λ l. b ∷ l) e)))))

-- what a file's end says of its lines: r is the file without the ending byte 10, or None
pub lines_by_end : (file : Bor (List ℕ)) (r : Option (Bor (List ℕ))) → 0 < length file.now → MatchOption r ((front : List ℕ) → file.now ≢ front ++ 10 ∷ []) (λ x. file.now ≡ x.now ++ 10 ∷ []) → split 10 (unwrap_or r file).now ≡ lines file.now
lines_by_end file (Some x) some is = lines_ended x.now ∙ sym (ap lines is)
lines_by_end file None some other = unended file.now some other
  where
    unended : (bs : List ℕ) → 0 < length bs → ((front : List ℕ) → bs ≢ front ++ 10 ∷ []) → split 10 bs ≡ lines bs
    unended [] none e = absurd (omega arith)
    unended (b ∷ bs) some e = lines_open b bs e

pub back_by_end : (file : Bor (List ℕ)) (r : Option (Bor (List ℕ))) → MatchOption r ((front : List ℕ) → file.now ≢ front ++ 10 ∷ []) (λ x. file.now ≡ x.now ++ 10 ∷ []) → ((unwrap_or r file).now ≡ file.now) ⊎ ((unwrap_or r file).now ++ 10 ∷ [] ≡ file.now)
back_by_end file (Some x) is = inr (sym is)
back_by_end file None other = inl refl

bytes_placed : (line column : ℕ) (ps : List (List ℕ)) → map (λ p. p.bytes) (placed line column ps) ≡ ps
bytes_placed line column [] = refl
bytes_placed line column (p ∷ ps) = ap (λ l. p ∷ l) (bytes_placed line (column + (length p + 1)) ps)

lines_back : (line : ℕ) (ls : List (List ℕ)) → map row_text (rows_from line ls) ≡ ls
lines_back line [] = refl
lines_back line (l ∷ ls) = λ i. (ap (join_with_byte 44) (bytes_placed line 1 (split 44 l)) ∙ join_with_byte-slice_split 44 l) i ∷ lines_back (line + 1) ls i

-- without its empty end, a list of lines lacks at most the last byte 10
abbrev Ends : List (List ℕ) → List (List ℕ) → Type 0
Ends ps qs = (join_with_byte 10 ps ≡ join_with_byte 10 qs) ⊎ (join_with_byte 10 ps ++ 10 ∷ [] ≡ join_with_byte 10 qs)

ends_more : (p : List ℕ) (q w : List ℕ) (ps ws : List (List ℕ)) → Ends (w ∷ ws) (q ∷ ps) → Ends (p ∷ w ∷ ws) (p ∷ q ∷ ps)
ends_more p q w ps ws e =
    ⊎_elim
    (λ h. inl (ap (λ l. p ++ 10 ∷ l) h))
    (λ h. inr (append_assoc p (10 ∷ join_with_byte 10 (w ∷ ws)) (10 ∷ []) ∙ ap (λ l. p ++ 10 ∷ l) h)) e

ends : (ps : List (List ℕ)) → Ends (without_empty_end ps) ps
ends [] = inl refl
ends ([] ∷ []) = inl refl
ends ((b ∷ bs) ∷ []) = inl refl
ends (p ∷ [] ∷ []) = inr refl
ends (p ∷ (b ∷ bs) ∷ []) = inl refl
ends (p ∷ q ∷ r ∷ ps) = ends_more p q q (r ∷ ps) (without_empty_end (r ∷ ps)) (ends (q ∷ r ∷ ps))

pub join_split : (mark : ℕ) (bs : List ℕ) → join_with_byte mark (split mark bs) ≡ bs
join_split mark bs = join_with_byte-slice_split mark bs

pub rejoined : (file : List ℕ) → Rejoins (rows file) file
rejoined file =
    let back : text_of (rows file) ≡ join_with_byte 10 (lines file) = ap (join_with_byte 10) (lines_back 1 (lines file)) in
    ⊎_elim
    (λ h. inl (back ∙ h ∙ join_split 10 file))
    (λ h. inr (ap (λ l. l ++ 10 ∷ []) back ∙ h ∙ join_split 10 file))
    (ends (split 10 file))

text_back : (text : List ℕ) → text_of (rows_from 1 (split 10 text)) ≡ text
text_back text = ap (join_with_byte 10) (lines_back 1 (split 10 text)) ∙ join_with_byte-slice_split 10 text

-- the same of any text with the file's lines
pub rejoined_from : (file text : List ℕ) → split 10 text ≡ lines file → (text ≡ file) ⊎ (text ++ 10 ∷ [] ≡ file) → Rejoins (rows file) file
rejoined_from file text same back =
    let all : text_of (rows file) ≡ text = ap (λ ls. text_of (rows_from 1 ls)) (sym same) ∙ text_back text in
    ⊎_elim (λ h. inl (all ∙ h)) (λ h. inr (ap (λ l. l ++ 10 ∷ []) all ∙ h)) back
