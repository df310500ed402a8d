use Rattle.std.proofs.Common.{◌≡◌, ◌^◌, ◌<◌, ◌≤◌, drop}
use Rattle.op_num.proofs.texts.FewBytes.{along}
use Rattle.op_num.proofs.texts.short.short_number.Given as goal

abbrev pub invariant-loop-len : goal.invariant-loop-len
invariant-loop-len l = record {
  so_far : along l.most 0 0 l.bytes ≡ along l.most l.number l.len (drop l.len l.bytes);
  below : l.number < 10 ^ l.len;
  few : l.len ≤ l.most;
}
