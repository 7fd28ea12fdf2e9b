-- Lists of ranges, read pair by pair.
use Rattle.std.proofs.Common.{◌≡◌, List, [], ◌∷◌, ◌++◌, Ok, Err, refl, sym, ap, ◌∙◌, append_assoc}
use Rattle.fb_bytes.specs.declared.KeyRange.{KeyRange}
use Rattle.fb_bytes.specs.Bytes.{Bytes}
use Rattle.workload_text.specs.Faults.{Read}
use Rattle.workload_text.specs.Words.{◌>>=◌, range_of}
use Rattle.workload_text.specs.Lines.{list_of}

-- these ranges in front of those that further words spell
abbrev pub behind : List KeyRange → Read (List KeyRange) → Read (List KeyRange)
behind front (Err fault) = Err fault
behind front (Ok list) = Ok (front ++ list)

pub behind_none : (o : Read (List KeyRange)) → o ≡ behind [] o
behind_none (Err fault) = refl
behind_none (Ok list) = refl

behind_one : (front : List KeyRange) (range : KeyRange) (o : Read (List KeyRange)) → behind front (o >>= (λ list. Ok (range ∷ list))) ≡ behind (front ++ range ∷ []) o
behind_one front range (Err fault) = refl
behind_one front range (Ok list) = ap (λ (l : List KeyRange). Ok l) (sym (append_assoc front (range ∷ []) list))

-- two words that spell a range
pub one_pair : (all words more : List Bytes) (begin end : Bytes) (front new : List KeyRange) (range : KeyRange) → list_of all ≡ behind front (list_of words) → words ≡ begin ∷ end ∷ more
    → range_of begin end ≡ Ok range → new ≡ front ++ range ∷ [] → list_of all ≡ behind new (list_of more)
one_pair all words more begin end front new range h e r n =
    h
    ∙ ap (λ (ws : List Bytes). behind front (list_of ws)) e
    ∙ ap (λ (o : Read KeyRange). behind front (o >>= (λ range. list_of more >>= (λ list. Ok (range ∷ list))))) r
    ∙ behind_one front range (list_of more)
    ∙ ap (λ (f : List KeyRange). behind f (list_of more)) (sym n)
