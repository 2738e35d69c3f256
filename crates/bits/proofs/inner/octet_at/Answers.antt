use mathlib.Core.Path.{◌∙◌}
use Rattle.bits.proofs.Words.{octet_folded}
use Rattle.bits.proofs.inner.octet_at.Goals as goal

pub returns : goal.returns
returns c =
    let h = c.before in
    let g = h.before in
    let f = g.before in
    let e = f.before in
    let d = e.before in
    let b = d.before.before in
    let st = b.before.before.before in
    c.folded.ensures
    ∙ octet_folded _ _ st.requires.1 st.requires.0 _ _ _ _ _ _ _ _ b.before.bit_at-a.ensures.0 b.bit_at-b.ensures.0 d.before.bit_at-c.ensures.0 d.bit_at-d.ensures.0 e.bit_at-e.ensures.0 f.bit_at-f.ensures.0 g.bit_at-g.ensures.0 h.bit_at-h.ensures.0
