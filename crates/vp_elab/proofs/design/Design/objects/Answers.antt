use Rattle.vp_elab.proofs.Designed.{kinds_are, lowest_are, objects_stand, scopes_are, widths_are, widths_each}
use Rattle.vp_elab.proofs.design.Design.objects.Goals as goal

pub returns-clause-nodes : goal.returns-clause-nodes
returns-clause-nodes c =
    let s = c.self.inside in
    objects_stand s.source s.envelopes s.tables s.scopes s.objects c.self.invariant c.args.self.now c.self.view_is c.as_slice.result.now c.as_slice.ensures

pub returns-clause-kinds : goal.returns-clause-kinds
returns-clause-kinds c =
    let s = c.self.inside in
    kinds_are s.source s.envelopes s.tables s.scopes s.objects c.self.invariant c.args.self.now c.self.view_is c.as_slice.result.now c.as_slice.ensures

pub returns-clause-widths : goal.returns-clause-widths
returns-clause-widths c =
    let s = c.self.inside in
    widths_are s.source s.envelopes s.tables s.scopes s.objects c.self.invariant c.args.self.now c.self.view_is c.as_slice.result.now c.as_slice.ensures

pub returns-clause-scopes : goal.returns-clause-scopes
returns-clause-scopes c =
    let s = c.self.inside in
    scopes_are s.source s.envelopes s.tables s.scopes s.objects c.self.invariant c.args.self.now c.self.view_is c.as_slice.result.now c.as_slice.ensures

pub returns-clause-vectors : goal.returns-clause-vectors
returns-clause-vectors c =
    let s = c.self.inside in
    lowest_are s.source s.envelopes s.tables s.scopes s.objects c.self.invariant c.args.self.now c.self.view_is c.as_slice.result.now c.as_slice.ensures

pub returns-clause-some : goal.returns-clause-some
returns-clause-some c =
    let s = c.self.inside in
    widths_each s.source s.envelopes s.tables s.scopes s.objects c.self.invariant c.args.self.now c.self.view_is c.as_slice.result.now c.as_slice.ensures
