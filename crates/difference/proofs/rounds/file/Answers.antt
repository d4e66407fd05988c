-- The bucket after the push.
use Rattle.std.proofs.Common.{◌≡◌, ◌∙◌, sym, refl}
use Rattle.std.proofs.lemmas.Option.{get_or_from_slice_get}
use Rattle.difference.proofs.rounds.file.Goals as goal

pub returns : goal.returns
returns c = record {
  bucket = c.push.new.self;
  after_is = refl;
  items = λ v e. let same : v ≡ c.index_mut.result.now = sym (get_or_from_slice_get c.args.buckets.now.items c.args.place v c.index_mut.result.now e) ∙ sym c.index_mut.ensures.value in
      rw same c.in_ok-push.ensures.items;
}
