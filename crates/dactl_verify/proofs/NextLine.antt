-- The line of an entry is the next line where it stands first.
use Rattle.std.proofs.Common.{◌≡◌, ℕ, ◌^◌, ◌<◌, true, List, [], ◌∷◌, ◌++◌, length, codes, refl, sym, ap, ◌∙◌, arith, append_assoc, length-append}
use Rattle.std.specs.Fmt.{decimal}
use Rattle.std.proofs.lemmas.List.{append-nil}
use Rattle.dactl_base.specs.Readers.{next_line}
use Rattle.dactl_base.proofs.NextLine.{is_pure, pure_append, pure_decimal, line_ends}
use Rattle.dactl_model.specs.declared.graph.Event.{Event}
use Rattle.dactl_model.specs.declared.graph.Event.TheVariants.{Fire, Note}
use Rattle.dactl_model.specs.declared.graph.Entry.{Entry}
use Rattle.dactl_print.specs.Texts.{event_text, entry_line, line_feed}
use Rattle.dactl_verify.specs.Lines.{HasWords}

pure_word : (n : ℕ) → n < 2 ^ 32 → is_pure (decimal n) ≡ true
pure_word n small = pure_decimal n (omega arith)

pure_event : (e : Event) → HasWords e → is_pure (event_text e) ≡ true
pure_event (Fire n r) words =
    let rule = pure_append (codes " ") (decimal r) refl (pure_word r words.1) in
    pure_append (codes " fire ") (decimal n.number ++ (codes " " ++ decimal r)) refl (pure_append (decimal n.number) (codes " " ++ decimal r) (pure_word n.number words.0) rule)
pure_event (Note n) words = pure_append (codes " note ") (decimal n.number) refl (pure_word n.number words)

-- what stands before the LF
abbrev line_text : ℕ → Entry → List ℕ
line_text number entry = decimal number ++ (codes " w" ++ (decimal entry.worker ++ event_text entry.event))

pure_line : (number : ℕ) (entry : Entry) → number < 2 ^ 32 → entry.worker < 2 ^ 32 → HasWords entry.event → is_pure (line_text number entry) ≡ true
pure_line number entry small worker words =
    let event = pure_append (decimal entry.worker) (event_text entry.event) (pure_word entry.worker worker) (pure_event entry.event words) in
    pure_append (decimal number) (codes " w" ++ (decimal entry.worker ++ event_text entry.event)) (pure_word number small) (pure_append (codes " w") (decimal entry.worker ++ event_text entry.event) refl event)

line_split : (number : ℕ) (entry : Entry) (more : List ℕ) → entry_line number entry ++ more ≡ line_text number entry ++ 10 ∷ more
line_split number entry more =
    let text = decimal entry.worker ++ event_text entry.event in
    append_assoc (decimal number) (codes " w" ++ (decimal entry.worker ++ (event_text entry.event ++ line_feed))) more
    ∙ ap (λ (t : List ℕ). decimal number ++ (codes " w" ++ t))
    (append_assoc (decimal entry.worker) (event_text entry.event ++ line_feed) more ∙ ap (λ (t : List ℕ). decimal entry.worker ++ t) (append_assoc (event_text entry.event) line_feed more)
    ∙ sym (append_assoc (decimal entry.worker) (event_text entry.event) (10 ∷ more)))
    ∙ sym (append_assoc (decimal number) (codes " w" ++ text) (10 ∷ more))

-- where the line of an entry stands first, it is the next line
pub line_first : (number : ℕ) (entry : Entry) (more : List ℕ) → number < 2 ^ 32 → entry.worker < 2 ^ 32 → HasWords entry.event → next_line (entry_line number entry ++ more) ≡ entry_line number entry
line_first number entry more small worker words =
    let whole = line_split number entry [] in
    ap next_line (line_split number entry more) ∙ line_ends (line_text number entry) more (pure_line number entry small worker words) ∙ sym (sym (append-nil (entry_line number entry)) ∙ whole)

-- and it is not empty
pub line_some : (number : ℕ) (entry : Entry) → 0 < length (entry_line number entry)
line_some number entry =
    omega (arith, length-append (decimal number) (codes " w" ++ (decimal entry.worker ++ (event_text entry.event ++ line_feed))))
