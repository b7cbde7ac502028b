mod DepthLaws
mod TokenLaws
